mod WeightLemmas
mod LaterLemmas
mod PerformLemmas
mod OwnerLemmas
pub mod Theorems
