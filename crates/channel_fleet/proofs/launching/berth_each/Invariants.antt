use Rattle.std.proofs.Common.{◌≡◌, ◌≤◌, ◌+◌, ◌++◌, [], length, map, vec_capacity, vec_len}
use Rattle.std.specs.List.{AllByRecursion}
use Rattle.std.specs.Vec.Iter.{into_iter_items}
use Rattle.channel_fleet.specs.Yards.{new_berth}
use Rattle.channel_fleet.proofs.launching.berth_each.Given as goal

-- the first passes have berths, and for each of the others there is a reader and room
abbrev pub invariant-loop-pass : goal.invariant-loop-pass
invariant-loop-pass g l =
    (goal.iterator-loop-pass g).can_next l.pass-iterator
    × (goal.iterator-loop-pass g).is_finite l.pass-iterator
    × (l.yielded ++ into_iter_items l.pass-iterator ≡ into_iter_items l.initial.pass-iterator)
    × (l.berths.items ≡ map new_berth l.yielded)
    × AllByRecursion (λ seen. seen ≡ []) l.watchers.items
    × (vec_len l.watchers ≡ length (into_iter_items l.pass-iterator))
    × (vec_len l.berths + vec_len l.watchers ≤ vec_capacity l.berths)
