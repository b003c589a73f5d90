pub mod FilterLemmas
pub mod HashLemmas
pub mod IndexLemmas
pub mod ReadingLemmas
pub mod SearchLemmas
