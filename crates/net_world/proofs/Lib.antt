pub mod CauseLemmas
mod ClockLemmas
mod FirstLemmas
mod MapLemmas
mod ScriptLemmas
