-- What a table of a channel's requests cites of this crate's proofs: how its calls go on as a journal does. Each lemma stands where its name is brought from, with its sentence.
-- The state of a leg behind each kind of entry.
pub use Rattle.query_machine.proofs.LegMeaningLemmas.{begun_means, closed_end_means, closed_means, fresh_means, set_means, spared_means}
-- Servers with their failures behind each kind of entry, and the choice among them.
pub use Rattle.query_machine.proofs.FailureMeaningLemmas.{failed_counts, failures_few, good_counts, opening_counts, pick_is_chosen, renewed_counts}
-- The query of an attempt, and what bytes mean that come for it.
pub use Rattle.query_machine.proofs.QueryMeaningLemmas.{query_means, reply_means, verdict_means}
