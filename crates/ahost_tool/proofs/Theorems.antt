-- What crates above may cite: that words ask for one thing, which is within its limits, as is each number that was read. Each lemma stands where its name is brought from, with its sentence.
pub use Rattle.ahost_tool.proofs.RunningLemmas.{same_load, same_none, same_uses}
pub use Rattle.ahost_tool.proofs.LaterLemmas.{asked_few}
pub use Rattle.ahost_tool.proofs.LoadingLemmas.{asked_within, number_small, of_each}
-- Files that weren't read.
pub use Rattle.ahost_tool.proofs.SettingLemmas.{none_read}
-- Which report was put.
pub use Rattle.ahost_tool.proofs.PromiseLemmas.{complete_of}
-- No wait of a load's network failed.
pub use Rattle.ahost_tool.proofs.NetworkLemmas.{none_failed}
