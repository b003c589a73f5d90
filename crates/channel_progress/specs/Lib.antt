pub mod Allowed
pub mod Waking
pub mod Prompted
pub mod PlainRun
pub mod Beside
