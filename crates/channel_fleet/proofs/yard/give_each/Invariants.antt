use Rattle.std.proofs.Common.{◌≡◌, ◌+◌, ◌++◌, length, vec_capacity, vec_len}
use Rattle.std.specs.Vec.Iter.{into_iter_items}
use Rattle.channel_fleet.proofs.RowLemmas.{IsGiving}
use Rattle.channel_fleet.proofs.yard.give_each.Given as goal

-- so far the first rows have their berths, and there is one for each of the others
abbrev pub invariant-loop-berth : goal.invariant-loop-berth
invariant-loop-berth g l =
    (goal.iterator-loop-berth g).can_next l.berth-iterator
    × (goal.iterator-loop-berth g).is_finite l.berth-iterator
    × (l.yielded ++ into_iter_items l.berth-iterator ≡ into_iter_items l.initial.berth-iterator)
    × IsGiving (λ row. row.items) (λ row. vec_capacity row) l.fn.rows.items l.rows.items l.yielded
    × (length l.yielded + length (into_iter_items l.berth-iterator) ≡ length l.fn.rows.items)
    × (vec_len l.rows ≡ vec_len l.fn.rows)
