use Rattle.std.proofs.Common.{◌≡◌, ◌++◌}
use Rattle.std.specs.Vec.Iter.{into_iter_items}
use Rattle.thread_lookups.specs.Passing.{AsksEach}
use Rattle.thread_lookups.proofs.asking.ask_each.Given as goal

-- these were asked so far
abbrev pub invariant-loop-request : goal.invariant-loop-request
invariant-loop-request g l =
    (goal.iterator-loop-request g).can_next l.request-iterator
    × (goal.iterator-loop-request g).is_finite l.request-iterator
    × (l.yielded ++ into_iter_items l.request-iterator ≡ into_iter_items l.initial.request-iterator)
    × AsksEach l.yielded l.fn.place l.place
