mod MapLemmas
mod IndexLemmas
mod LineLemmas
mod LoadLemmas
mod AnswerLemmas
mod ReadLemmas
mod ReplyLemmas
mod HearingLemmas
mod QuestionLemmas
mod PeerLemmas
pub mod LogLemmas
pub mod WakingLemmas
pub mod Theorems
mod LinkLemmas
mod WordLemmas
mod TurnLemmas
mod EndLemmas
