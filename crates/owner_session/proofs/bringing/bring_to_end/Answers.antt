use Rattle.std.proofs.Common.{All, None, [], ap, subst, sym, ◌≡◌, ◌∙◌}
use Rattle.owner_session.proofs.KeepLemmas.{all_returned}
use Rattle.owner_session.proofs.PromiseLemmas.{promise_of}
use Rattle.owner_session.proofs.bringing.bring_to_end.Goals as goal

-- the bodies that were given were told nothing
pub session-loop_end-requires-clause-fresh : goal.session-loop_end-requires-clause-fresh
session-loop_end-requires-clause-fresh g c = subst (λ places. All (λ body. g.B.Done.told body ≡ None) places.rest) (sym c.of.ensures) c.requires.fresh

-- the owner is idle behind the session
pub close-requires : goal.close-requires
close-requires g c = record { idle = c.session-loop_end.ensures.session.kept.0 }

-- the channel was made
pub returns-clause-promise : goal.returns-clause-promise
returns-clause-promise g c =
    rw (c.into_journal.ensures ∙ c.close-2.ensures)
    (promise_of _ _ _ _ _ _ _ _ _ (ap (λ caller. caller.alone.setting) c.in-Ok.ensures.made.1) (ap (λ caller. caller.hand.orders) c.in-Ok.ensures.made.1) (rw c.of.ensures at c.session-loop_end.ensures.session) c.close.ensures.closes
    c.in-Ok.ensures.limits.0 c.in-Ok.ensures.limits.1 (record { options = _; end = _; journal = []; calls = []; bodies = _ }) _ _ c.ending_of-end.ensures c.session-loop_end.ensures.wait_fault)

-- the bodies come back
pub returns-clause-bodies : goal.returns-clause-bodies
returns-clause-bodies g c =
    all_returned g.B.Done.name g.B.Done.told g.B.Done.refusal _ c.args.requests.bodies.items _ _ _ _ c.session-loop_end.ensures.session.kept c.session-loop_end.ensures.places c.close.ensures.closes c.close.ensures.places
    (ap (λ places. places.rest) c.of.ensures) (c.into_journal.ensures ∙ c.close-2.ensures) c.into_bodies.ensures
