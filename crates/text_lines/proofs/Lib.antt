pub mod LineLemmas
pub mod NameWordLemmas
