pub mod Asked
pub mod Summary
pub mod Page
pub mod Told
pub mod Promise
pub mod Setting
pub mod Loading
pub mod Running
