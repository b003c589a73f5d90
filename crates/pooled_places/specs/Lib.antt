pub mod Tickets
pub mod Delivery
pub mod Standing
