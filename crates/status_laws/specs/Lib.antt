pub mod Positions
pub mod Causes
