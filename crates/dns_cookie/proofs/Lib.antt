pub mod JudgingLemmas
mod OptionsLemmas
mod PlacesLemmas
mod PlainLemmas
mod ReplyLemmas
