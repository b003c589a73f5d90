use Rattle.std.proofs.Common.{ap, refl}
use Rattle.std.specs.Prelude.{is_err}
use Rattle.owner_session.proofs.KeepLemmas.{have_kept}
use Rattle.owner_session.proofs.PlaceLemmas.{asked_all, asked_none}
use Rattle.owner_session.proofs.SessionLemmas.{asked_kept, begun, session_asked, session_refused, session_unasked, unbegun}
use Rattle.owner_session.proofs.session.session.Goals as goal

pub returns-in_err-runner-clause-session : goal.returns-in_err-runner-clause-session
returns-in_err-runner-clause-session g c =
    session_unasked _ _ _ c.args.caller.now _ _ c.from_residual.result c.requires.new c.from_residual.ensures.0
    (unbegun c.args.caller.now c.requires.new _ _ c.args.options.now c.requires.options c.in_err-runner.ensures.opens)

pub returns-in_err-accept_all-clause-session : goal.returns-in_err-accept_all-clause-session
returns-in_err-accept_all-clause-session g c =
    session_refused _ _ _ c.args.caller.now c.requires.new _ _ _ _ _ c.accept_all.ensures.accepts c.in_ok-runner.runner
    (begun c.args.caller.now c.requires.new _ _ c.args.options.now c.in_ok-runner.runner c.requires.options c.in_ok-runner.ensures.fresh c.in_ok-runner.ensures.opens)
    c.from_residual-in_err-accept_all.result c.from_residual-in_err-accept_all.ensures.0 (ap is_err c.in_err-accept_all.was)

pub returns-clause-session : goal.returns-clause-session
returns-clause-session g c =
    session_asked _ _ _ c.args.caller.now c.requires.new _ _ _ _ _ c.accept_all.ensures.accepts c.in_ok-runner.runner
    (begun c.args.caller.now c.requires.new _ _ c.args.options.now c.in_ok-runner.runner c.requires.options c.in_ok-runner.ensures.fresh c.in_ok-runner.ensures.opens)
    c.make_turns.result _ _ _ c.in_ok-accept_all.was c.make_turns.ensures.turns

-- ---- the bodies

pub returns-in_err-runner-clause-places : goal.returns-in_err-runner-clause-places
returns-in_err-runner-clause-places g c =
    asked_all g.B.Done.name g.B.Done.told g.B.Done.refusal _ _ _ (asked_none g.B.Done.name g.B.Done.told _ _ _ c.requires.new.empty c.requires.unasked refl)

pub returns-clause-places : goal.returns-clause-places
returns-clause-places g c =
    have_kept g.B.Done.name g.B.Done.told g.B.Done.refusal _ _ _
    (asked_kept _ c.args.later c.args.turns c.args.caller.now c.requires.new _ _ _ _ _ c.accept_all.ensures.accepts c.in_ok-runner.runner
    (begun c.args.caller.now c.requires.new _ _ c.args.options.now c.in_ok-runner.runner c.requires.options c.in_ok-runner.ensures.fresh c.in_ok-runner.ensures.opens))
    c.accept_all.ensures.places c.make_turns.ensures.places
