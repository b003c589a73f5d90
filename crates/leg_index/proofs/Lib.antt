pub mod Theorems
mod FlightLemmas
mod LinkLemmas
mod WaitingLemmas
