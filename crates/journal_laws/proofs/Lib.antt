pub mod ScriptLemmas
pub mod FateLemmas
pub mod PutLemmas
pub mod TellingLemmas
pub mod AdigLemmas
pub mod AhostLemmas
