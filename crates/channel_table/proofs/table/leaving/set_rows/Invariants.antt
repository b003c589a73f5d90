use Rattle.channel_table.proofs.Base.{◌≡◌, ◌++◌, deque_len, drop, map, take, row_set}
use Rattle.channel_table.proofs.table.leaving.set_rows.Given as goal

-- the rows before this index are set
abbrev pub invariant-loop-index : goal.invariant-loop-index
invariant-loop-index g l = (l.rows.items ≡ map (row_set l.list) (take l.index l.initial.rows.items) ++ drop l.index l.initial.rows.items) × (deque_len l.rows ≡ deque_len l.initial.rows)
