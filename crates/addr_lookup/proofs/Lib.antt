pub mod OrderLemmas
pub mod NumberLemmas
pub mod RecordLemmas
pub mod KindLemmas
pub mod MergeLemmas
pub mod FormLemmas
