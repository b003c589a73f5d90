pub mod Checks
pub mod Fates
pub mod Kept
pub mod Replays
