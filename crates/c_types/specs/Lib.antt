pub mod Laid
pub mod Addresses
pub mod Outgoing
pub mod Faults
pub mod Told
