pub mod Weight
pub mod Performing
