pub mod FollowLemmas
pub mod StartLemmas
pub mod CheckLemmas
pub mod FateLemmas
pub mod KeyLemmas
pub mod KeptLemmas
