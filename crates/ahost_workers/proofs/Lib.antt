pub mod RequestLemmas
pub mod CallsLemmas
pub mod ObeyLemmas
pub mod PromiseLemmas
pub mod LoadLemmas
pub mod RunLemmas
