pub mod AddrLemmas
pub mod CanonicalLemmas
pub mod PrefixLemmas
pub mod ReadingLemmas
pub mod ReverseLemmas
pub mod TextLemmas
