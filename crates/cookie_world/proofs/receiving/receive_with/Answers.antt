use Rattle.std.proofs.Common.{Ok, Err, Some, refl, subst}
use Rattle.net_world.specs.declared.answers.Got.{Got}
use Rattle.net_world.specs.declared.log.WorldCall.TheVariants.{Receive}
use Rattle.cookie_world.specs.Rounds.{Goes}
use Rattle.cookie_world.specs.State.{CookieState, state_of}
use Rattle.cookie_world.proofs.GoesLemmas.{received, receive_held}
use Rattle.cookie_world.proofs.receiving.receive_with.Goals as goal

pub returns-in-Ok-clause-goes : goal.returns-in-Ok-clause-goes
returns-in-Ok-clause-goes g c =
    subst (λ (s : CookieState). Goes (λ (got : Got). Receive got) (Ok c.in-Ok.got) (g.W.World.log c.args.world.now) (g.W.World.log c.hand.new.world) s (state_of c.hand.new.kept)) c.in_ok-make_room.ensures.same
    (received _ _ _ _ _ _ _ _ c.in_ok-came.ensures.next c.in-Ok.ensures.hands)

pub returns-in-Err-clause-goes : goal.returns-in-Err-clause-goes
returns-in-Err-clause-goes g c =
    subst (λ (s : CookieState). Goes (λ (got : Got). Receive got) (Err _) (g.W.World.log c.args.world.now) (g.W.World.log c.hand.new.world) s (record (state_of c.hand.new.kept) { held = Some c.in-Err.back })) c.in_ok-make_room.ensures.same
    (receive_held _ _ _ _ _ _ _ _ _ _ c.in_ok-came.ensures.next c.in-Err.ensures.hands refl)
