use Rattle.std.specs.Prelude.{List}
use Rattle.channel_model.specs.Journal.{past_of}
use Rattle.completion_ticket.specs.States.{CalledState}
use Rattle.owner_session.specs.Delivering.{DeliversSome, IsIdle}
use Rattle.owner_session.specs.Returning.{KeepsPlaces}
use Rattle.ticket_delivery.specs.Weight.{weight}
use Rattle.owner_session.proofs.delivering.deliver_all.Given as goal

-- what was ready so far was delivered, and bodies that were told are back
abbrev pub invariant-loop-called : goal.invariant-loop-called
invariant-loop-called g l =
    IsIdle l.caller × ((called : List CalledState) × DeliversSome called l.fn.caller l.caller) × KeepsPlaces g.B.Done.name g.B.Done.told l.fn.caller l.caller

abbrev pub decreases-loop-called : goal.decreases-loop-called
decreases-loop-called g l = weight (past_of l.caller.alone.seen)
