pub mod Texts
pub mod Copies
pub mod Told
pub mod Pointers
pub mod Lent
pub mod Exports
