pub mod Pools
pub mod Spending
pub mod Parts
pub mod Rounds
