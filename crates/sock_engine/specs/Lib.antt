pub mod Ends
pub mod Inbox
pub mod LocalFailures
pub mod Peer
pub mod Reading
pub mod Reply
pub mod State
