use Rattle.std.proofs.Common.{◌≡◌, ◌++◌, length, ◌+◌, ◌≤◌}
use Rattle.std.specs.Vec.Iter.{into_iter_items}
use Rattle.chan_types.specs.Gives.{commands_of}
use Rattle.chan_types.specs.Scripts.{moves_of}
use Rattle.completion_ticket.proofs.scripted.ScriptedDone.done.Given as goal

abbrev pub invariant-loop-step : goal.invariant-loop-step
invariant-loop-step l =
    (goal.iterator-loop-step).can_next l.step-iterator ×
    (goal.iterator-loop-step).is_finite l.step-iterator ×
    (length l.hand.commands + length (into_iter_items l.step-iterator) ≤ 8) ×
    (l.hand.orders ≡ l.fn.hand.orders) ×
    (l.hand.commands ++ commands_of (moves_of (into_iter_items l.step-iterator)) l.fn.answer l.fn.hand.orders ≡ commands_of l.fn.self.plan.moves l.fn.answer l.fn.hand.orders)
