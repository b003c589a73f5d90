pub mod Turning
pub mod Setting
pub mod Standing
pub mod Stepping
