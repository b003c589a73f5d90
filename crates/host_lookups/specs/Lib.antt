pub mod Answered
pub mod Extending
pub mod Many
pub mod Page
pub mod Scripts
