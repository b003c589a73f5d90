pub mod BeginningLemmas
pub mod KeptLemmas
