pub mod Buffers
pub mod CallLemmas
pub mod Steps
