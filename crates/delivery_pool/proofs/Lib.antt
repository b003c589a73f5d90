mod TicketLemmas
mod SpendingLemmas
mod JoiningLemmas
mod OfferingLemmas
pub mod Theorems
