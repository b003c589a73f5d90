mod PumpLemmas
mod ServedLemmas
pub mod Theorems
