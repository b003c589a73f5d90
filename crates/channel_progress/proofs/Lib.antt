mod ListLemmas
pub mod MostLemmas
mod FitLemmas
mod LeftLemmas
mod FallLemmas
mod CandidateLemmas
mod StandLemmas
mod AskingLemmas
mod FlyingLemmas
mod EntryLemmas
mod ViewLemmas
mod OfPartLemmas
mod PartLemmas
mod TurnLemmas
mod GapLemmas
mod WaitLemmas
mod WakeLemmas
mod RoundLemmas
mod CourseLemmas
pub mod FailedLemmas
pub mod ScriptLemmas
pub mod PromptedLemmas
pub mod StalledLemmas
pub mod BesideLemmas
pub mod GrowLemmas
pub mod Theorems
pub mod WakingExamples
pub mod AllowedExamples
pub mod ExampleWords
pub mod StalledExample
pub mod EarlyExample
pub mod SetExample
