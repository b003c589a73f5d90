pub mod Owned
pub mod Lending
pub mod Told
pub mod Calls
