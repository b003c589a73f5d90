pub mod Pumping
pub mod Served
