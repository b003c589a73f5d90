pub mod Advice
pub mod Help
pub mod Screen
pub mod Taken
