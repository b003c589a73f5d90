pub mod Owner
pub mod Destroyed
pub mod Waits
pub mod Begun
pub mod Well
pub mod ListLemmas
