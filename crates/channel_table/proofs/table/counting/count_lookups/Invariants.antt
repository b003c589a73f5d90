use Rattle.channel_table.proofs.Base.{◌≡◌, ◌≤◌, ◌*◌, take, sum_by}
use Rattle.channel_table.specs.Sought.{sought_in}
use Rattle.channel_table.proofs.table.counting.count_lookups.Given as goal

abbrev pub invariant-loop-index : goal.invariant-loop-index
invariant-loop-index g l = (l.count ≡ sum_by (sought_in l.sought) (take l.index l.rows.items)) × (l.count ≤ 2 * l.index)
