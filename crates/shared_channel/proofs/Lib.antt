mod Adding
mod Telling
mod PassLemmas
mod CountingLemmas
mod OrderLemmas
mod JoinLemmas
mod GoingLemmas
mod AnswerLemmas
mod EmptyingLemmas
mod WholeLemmas
mod EndLemmas
mod StayLemmas
mod DeliverLemmas
mod TakingLemmas
mod BackLemmas
mod CallLemmas
mod RunnerLemmas
pub mod SendLemmas
pub mod ClosureLemmas
mod ScriptLemmas
pub mod Theorems
