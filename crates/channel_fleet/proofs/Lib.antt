mod RoundLemmas
mod RowLemmas
mod MakingLemmas
mod YardLemmas
mod EndingLemmas
mod CallingLemmas
mod UseLemmas
mod StayLemmas
mod SteerLemmas
mod ServeLemmas
mod HelmLemmas
mod SendLemmas
mod StandLemmas
mod FrontLemmas
pub mod Theorems
