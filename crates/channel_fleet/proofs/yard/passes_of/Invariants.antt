use Rattle.std.proofs.Common.{◌≡◌, ◌≤◌, ◌+◌, ◌++◌, length, map, vec_capacity, vec_len}
use Rattle.std.specs.Vec.Iter.{into_iter_items}
use Rattle.channel_fleet.proofs.yard.passes_of.Given as goal

-- a pass of each of the first rows, and room for those of the others
abbrev pub invariant-loop-berths : goal.invariant-loop-berths
invariant-loop-berths g l =
    (goal.iterator-loop-berths g).can_next l.berths-iterator
    × (goal.iterator-loop-berths g).is_finite l.berths-iterator
    × (l.yielded ++ into_iter_items l.berths-iterator ≡ into_iter_items l.initial.berths-iterator)
    × (l.passes.items ≡ map (λ row. row.items) l.yielded)
    × (vec_len l.passes + length (into_iter_items l.berths-iterator) ≤ vec_capacity l.passes)
