-- What crates above may cite: where a run stands before its first turn, and its steps one behind the other. Each lemma stands where its name is brought from, with its sentence.
pub use Rattle.worker_session.proofs.StartLemmas.{stands_new}
pub use Rattle.worker_session.proofs.WayLemmas.{steps_none, steps_same, steps_then}
pub use Rattle.worker_session.proofs.SettingLemmas.{sets_more, sets_none_both, sets_none_own, so_far_more}
