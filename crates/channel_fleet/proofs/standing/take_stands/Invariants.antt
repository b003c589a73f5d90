use Rattle.std.proofs.Common.{◌≡◌, ◌≤◌, ◌+◌, ◌++◌, length, map, vec_capacity, vec_len}
use Rattle.std.specs.Vec.Iter.{into_iter_items}
use Rattle.channel_fleet.proofs.standing.take_stands.Given as goal

-- the first networks have their stands, and for each of the others there is a helm and room
abbrev pub invariant-loop-world : goal.invariant-loop-world
invariant-loop-world g l =
    (goal.iterator-loop-world g).can_next l.world-iterator
    × (goal.iterator-loop-world g).is_finite l.world-iterator
    × (l.yielded ++ into_iter_items l.world-iterator ≡ into_iter_items l.initial.world-iterator)
    × (map (λ stand. stand.world) l.stands.items ≡ l.yielded)
    × (map (λ stand. stand.helm) l.stands.items ++ l.helms.items ≡ l.fn.helms.items)
    × (vec_len l.helms ≡ length (into_iter_items l.world-iterator))
    × (vec_len l.stands + vec_len l.helms ≤ vec_capacity l.stands)
    × (vec_capacity l.helms ≡ vec_capacity l.fn.helms)
