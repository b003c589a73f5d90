pub mod Asking
pub mod Page
pub mod Passing
pub mod Shared
