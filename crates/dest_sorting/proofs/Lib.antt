pub mod PolicyLemmas
pub mod RankLemmas
pub mod SourceLemmas
pub mod Theorems
