pub mod Asking
pub mod Looking
pub mod Giving
pub mod Turnings
pub mod Serving
pub mod Turns
pub mod Seats
pub mod Session
