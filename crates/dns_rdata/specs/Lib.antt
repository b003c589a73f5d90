pub mod Table
pub mod Words
pub mod Parts
pub mod Rdata
pub mod Spelling
pub mod Lines
