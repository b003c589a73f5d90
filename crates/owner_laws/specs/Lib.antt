pub mod PlainEntries
pub mod Sessions
