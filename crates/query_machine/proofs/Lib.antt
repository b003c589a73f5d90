mod ReplyLemmas
mod ServerLemmas
pub mod FailureMeaningLemmas
pub mod LegMeaningLemmas
pub mod QueryMeaningLemmas
pub mod Theorems
