pub mod Query
pub mod Replies
pub mod Legs
pub mod Servers
pub mod Means
