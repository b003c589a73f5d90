pub mod Owned
pub mod Journaled
pub mod Making
pub mod State
pub mod Lending
