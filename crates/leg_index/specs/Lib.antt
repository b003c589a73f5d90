pub mod Flights
pub mod Links
pub mod Waiting
