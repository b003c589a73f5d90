pub mod Hosts
pub mod File
pub mod Index
