mod ViewLemmas
mod EntryLemmas
mod DrawLemmas
mod LookLemmas
mod LeaveLemmas
mod IdleLemmas
mod MakingLemmas
mod TurnLemmas
mod CloseLemmas
mod NewLemmas
pub mod Theorems
