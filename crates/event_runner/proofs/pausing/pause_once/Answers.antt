use Rattle.event_runner.proofs.Base.{sym, ◌∙◌}
use Rattle.event_runner.proofs.PauseLemmas.{both_look, pause_err, skipped, waited}
use Rattle.event_runner.proofs.pausing.pause_once.Goals as goal

pub returns-then-skips-clause-pauses : goal.returns-then-skips-clause-pauses
returns-then-skips-clause-pauses g c = skipped _ _ c.counts.result c.counts.ensures.done _ (sym c.skips.ensures ∙ c.if-skips.true)

pub returns-in_err-wait-clause-pauses : goal.returns-in_err-wait-clause-pauses
returns-in_err-wait-clause-pauses g c = pause_err _ _ _ _ _ _ c.from_residual.ensures.0 (both_look _ _ _ c.counts.result c.counts.ensures.done _ c.next_due-due.ensures.done) c.in_err-wait.ensures.log

pub returns-in-Woken-clause-pauses : goal.returns-in-Woken-clause-pauses
returns-in-Woken-clause-pauses g c =
    waited _ _ _ c.counts.result c.counts.ensures.done _ c.next_due-due.ensures.done _ _ _ _ _ (sym c.skips.ensures ∙ c.if-skips.false) c.earlier.ensures (rw c.in-Woken.is at c.in_ok-wait.ensures.log)

pub returns-in-Failed-clause-pauses : goal.returns-in-Failed-clause-pauses
returns-in-Failed-clause-pauses g c =
    waited _ _ _ c.counts.result c.counts.ensures.done _ c.next_due-due.ensures.done _ _ _ _ _ (sym c.skips.ensures ∙ c.if-skips.false) c.earlier.ensures (rw c.in-Failed.is at c.in_ok-wait.ensures.log)
