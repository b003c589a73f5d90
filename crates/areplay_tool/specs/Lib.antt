pub mod Ending
pub mod Page
pub mod Put
pub mod Replay
