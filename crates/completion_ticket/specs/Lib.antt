pub mod States
pub mod Bodies
pub mod Steps
