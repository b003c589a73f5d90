pub mod AsBox
pub mod Held
