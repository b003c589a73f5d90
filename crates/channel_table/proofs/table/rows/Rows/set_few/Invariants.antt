use Rattle.channel_table.proofs.Base.{length, map, ◌≡◌, row_set}
use Rattle.channel_table.proofs.table.rows.Rows.set_few.Given as goal

-- the list makes the same of the rows as before
abbrev pub invariant-loop-place : goal.invariant-loop-place
invariant-loop-place g l = (map (row_set l.list) l.self ≡ map (row_set l.list) l.initial.self) × (length l.self ≡ length l.initial.self)
