pub mod ListLemmas
pub mod CourseLemmas
pub mod FirstLemmas
pub mod EndLemmas
pub mod ClosingLemmas
