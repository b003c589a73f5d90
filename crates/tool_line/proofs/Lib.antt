mod AskLemmas
pub mod FileLemmas
mod LoopLemmas
pub mod ReadLemmas
mod ReadingLemmas
mod SaidLemmas
pub mod SettingsLemmas
mod ToldLemmas
mod ValueLemmas
mod WalkLemmas
