pub mod Lines
pub mod Left
pub mod Words
pub mod Names
