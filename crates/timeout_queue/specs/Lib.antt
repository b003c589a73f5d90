pub mod Hashing
pub mod Key
pub mod Queue
pub mod Rows
