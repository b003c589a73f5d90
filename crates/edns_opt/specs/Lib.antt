pub mod Options
pub mod Opt
pub mod Reading
pub mod Causes
