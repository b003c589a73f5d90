use Rattle.channel_table.proofs.Base.{take, AllByRecursion, IsListed}
use Rattle.channel_table.proofs.table.finding.list_all.Given as goal

-- the rows before this index that wait are listed
abbrev pub invariant-loop-index : goal.invariant-loop-index
invariant-loop-index g l = AllByRecursion (IsListed l.waiting) (take l.index l.rows.items)
