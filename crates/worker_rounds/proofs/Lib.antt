mod FeedingLemmas
mod GoingLemmas
mod CourseLemmas
mod CrewLemmas
mod RoundLemmas
mod SendLemmas
mod ServingLemmas
mod SettledLemmas
mod WholeLemmas
pub mod Theorems
