-- What a run cites of this crate's proofs. Each lemma stands where its name is brought from, with its sentence.
-- Courses of turns, behind which more entries stand.
pub use Rattle.event_runner.proofs.CourseLemmas.{course_then, so_far_then, stalled_then}
-- A run under way, from one call of its runner or its desk to the next.
pub use Rattle.event_runner.proofs.RunLemmas.{MayStand, ran_at_most, ran_so_far, runs_begin, runs_behind, runs_cut, runs_delivered, runs_failed, runs_following, runs_paused, runs_turned, runs_unbegun, runs_unpaused, told_both, waited_here, way_stalls}
-- The same, where a relation holds of what stands between turns.
pub use Rattle.event_runner.proofs.RoundLemmas.{AreBetween}
pub use Rattle.event_runner.proofs.RunLemmas.{WayWith}
pub use Rattle.event_runner.proofs.BetweenLemmas.{RunsWith, with_any, with_begun, with_behind, with_delivered, with_following, with_paused, with_stalls, with_turned}
-- What a log that is told got, by one part of a run behind another.
pub use Rattle.event_runner.proofs.GoesLemmas.{told_as, told_by, told_trans}
