pub mod BringsLemmas
pub mod InboxLemmas
pub mod ReadingLemmas
pub mod StateLemmas
