pub mod Channels
pub mod Findings
pub mod Ends
pub mod Merging
pub mod Kinds
