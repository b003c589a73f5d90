use Rattle.std.proofs.Common.{sym}
use Rattle.std.specs.Prelude.{Ok}
use Rattle.event_runner.specs.declared.answers.Paused.TheVariants.{Skipped, WaitFault, Woken}
use Rattle.channel_session.proofs.PartLemmas.{pause_cut_off, rests_at_once, rests_err, rests_failed, rests_skipped, rests_viewed, rests_woken}
use Rattle.channel_session.proofs.session.Session.rest.Goals as goal

pub returns-then-not-self-clause-rests : goal.returns-then-not-self-clause-rests
returns-then-not-self-clause-rests g c = rests_viewed (Ok Skipped) _ _ _ _ _ _ _ c.self.view_is (rests_at_once _ _ _ _ c.if-not-self.true (sym c.self.view_is))

pub returns-in_err-pause-clause-rests : goal.returns-in_err-pause-clause-rests
returns-in_err-pause-clause-rests g c =
    rests_viewed c.from_residual.result _ _ _ _ _ _ _ c.self.view_is
    (rests_err c.from_residual.result c.from_residual.ensures.0 _ _ (pause_cut_off _ _ _ _ _ _ c.if-not-self.false c.in_err-pause.ensures.pauses c.requires.none_ready))

pub returns-in-Skipped-clause-rests : goal.returns-in-Skipped-clause-rests
returns-in-Skipped-clause-rests g c =
    rests_viewed (Ok Skipped) _ _ _ _ _ _ _ c.self.view_is
    (rests_skipped _ _ _ c.pause.new.self _ _ _ _ c.in_ok-pause.ensures.kept c.requires.none_ready _ c.if-not-self.false (rw c.in-Skipped.is at c.in_ok-pause.ensures.pauses))

pub returns-in-Woken-clause-rests : goal.returns-in-Woken-clause-rests
returns-in-Woken-clause-rests g c =
    rests_viewed (Ok Woken) _ _ _ _ _ _ _ c.self.view_is
    (rests_woken _ _ _ c.pause.new.self _ _ _ _ c.in_ok-pause.ensures.kept c.requires.none_ready _ c.if-not-self.false (rw c.in-Woken.is at c.in_ok-pause.ensures.pauses))

pub returns-in-WaitFault-clause-rests : goal.returns-in-WaitFault-clause-rests
returns-in-WaitFault-clause-rests g c =
    rests_viewed (Ok WaitFault) _ _ _ _ _ _ _ c.self.view_is
    (rests_failed _ _ _ c.pause.new.self _ _ _ _ c.in_ok-pause.ensures.kept c.requires.none_ready _ c.if-not-self.false (rw c.in-WaitFault.is at c.in_ok-pause.ensures.pauses))
