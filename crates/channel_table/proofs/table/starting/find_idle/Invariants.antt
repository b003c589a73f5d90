use Rattle.channel_table.proofs.Base.{◌≡◌, [], take, flat_map, row_waits}
use Rattle.channel_table.proofs.table.starting.find_idle.Given as goal

-- no row before this index waits
abbrev pub invariant-loop-index : goal.invariant-loop-index
invariant-loop-index g l = flat_map row_waits (take l.index l.rows.items) ≡ []
