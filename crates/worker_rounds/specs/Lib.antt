pub mod Going
pub mod Course
pub mod Feeding
pub mod Crews
pub mod Rounds
pub mod Serving
pub mod Whole
