mod SendLemmas
mod DeliveryLemmas
mod StandingLemmas
pub mod Theorems
