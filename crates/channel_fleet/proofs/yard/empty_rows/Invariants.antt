use Rattle.std.proofs.Common.{◌≡◌, [], vec_capacity, vec_len}
use Rattle.std.specs.List.{AllByRecursion}
use Rattle.channel_fleet.proofs.yard.empty_rows.Given as goal

-- so many empty rows so far
abbrev pub invariant-loop : goal.invariant-loop
invariant-loop g l = AllByRecursion (λ row. (row.items ≡ []) × (vec_capacity row ≡ l.channels)) l.rows.items × (vec_len l.rows ≡ l.counter) × (vec_capacity l.rows ≡ l.callers)
