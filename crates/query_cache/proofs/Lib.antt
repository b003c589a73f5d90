pub mod RecentLemmas
pub mod QuestionLemmas
pub mod EntryLemmas
pub mod StandLemmas
pub mod KeyLemmas
pub mod LifetimeLemmas
