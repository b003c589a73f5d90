-- What a user of a session cites of this crate's proofs. Each lemma stands where its name is brought from, with its sentence.
-- A desk that has its channel alone.
pub use Rattle.channel_session.proofs.AloneLemmas.{IsAlone, alone_since, taken_alone, taken_behind, undisturbed}
-- A run between two calls of its session.
pub use Rattle.channel_session.proofs.StandLemmas.{stands_between, stands_voice}
-- Where its first turn begins.
pub use Rattle.channel_session.proofs.BegunLemmas.{begins_behind, begun_behind, begun_none, begun_on}
