pub mod Theorems
mod KeyLemmas
mod RowsLemmas
mod MomentLemmas
mod StandLemmas
