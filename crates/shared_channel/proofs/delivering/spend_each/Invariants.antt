use Rattle.std.proofs.Common.{◌≡◌, ◌++◌, ◌+◌, ◌≤◌, length, vec_capacity, vec_len}
use Rattle.std.specs.Vec.Iter.{into_iter_items}
use Rattle.shared_channel.specs.Delivering.{SpendsEach}
use Rattle.shared_channel.proofs.delivering.spend_each.Given as goal

-- these were spent so far, and there is room for the rest
abbrev pub invariant-loop-ticket : goal.invariant-loop-ticket
invariant-loop-ticket g l =
    (goal.iterator-loop-ticket g).can_next l.ticket-iterator
    × (goal.iterator-loop-ticket g).is_finite l.ticket-iterator
    × (l.yielded ++ into_iter_items l.ticket-iterator ≡ into_iter_items l.initial.ticket-iterator)
    × (vec_len l.called + length (into_iter_items l.ticket-iterator) ≤ vec_capacity l.called)
    × SpendsEach l.orders l.yielded l.fn.place l.called.items l.place
