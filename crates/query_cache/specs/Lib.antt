pub mod Lifetime
pub mod Cache
pub mod Key
pub mod Looked
pub mod Recency
