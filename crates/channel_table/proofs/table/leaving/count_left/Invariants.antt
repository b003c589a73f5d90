use Rattle.channel_table.proofs.Base.{◌≡◌, take, sum_by, left_use}
use Rattle.channel_table.proofs.table.leaving.count_left.Given as goal

-- the items before this index are counted
abbrev pub invariant-loop-index : goal.invariant-loop-index
invariant-loop-index l = l.count ≡ sum_by (left_use l.list) (take l.index l.uses)
