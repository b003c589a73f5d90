pub mod SearchLemmas
pub mod OptionLemmas
pub mod ResolvLemmas
