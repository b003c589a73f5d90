-- What crates above may cite: what was done through the places of a channel that was served; over all that its owner did, the turner that was its pump went on by steps, one behind the other; and what each step leaves as it was, all of them do.
pub use Rattle.turner_rounds.proofs.PumpLemmas.{kept_by, turned_by}
pub use Rattle.turner_rounds.proofs.ServedLemmas.{are_served}
