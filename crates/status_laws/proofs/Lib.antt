pub mod PositionLemmas
pub mod LegLemmas
pub mod StatusLemmas
pub mod AnswerLemmas
pub mod EntryLemmas
pub mod CauseLemmas
pub mod LoneLemmas
pub mod CompletingLemmas
