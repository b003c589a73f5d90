pub mod Order
pub mod Policy
pub mod Ranks
