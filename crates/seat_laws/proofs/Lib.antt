pub mod ListLemmas
pub mod OwnLemmas
pub mod PerformedLemmas
pub mod RowLemmas
pub mod ShiftLemmas
pub mod TakenLemmas
pub mod ObeyLemmas
pub mod DestroyLemmas
