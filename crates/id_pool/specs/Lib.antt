pub mod Bitmap
pub mod Identifiers
pub mod Levels
