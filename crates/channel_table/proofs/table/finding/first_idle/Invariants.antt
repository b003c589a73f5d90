use Rattle.std.specs.FinSet as set
use Rattle.channel_table.proofs.Base.{AllByRecursion, IsListed}
use Rattle.channel_table.proofs.table.finding.first_idle.Given as goal

abbrev pub invariant-loop-first : goal.invariant-loop-first
invariant-loop-first g l = AllByRecursion (IsListed l.waiting) l.rows.items

abbrev pub decreases-loop-first : goal.decreases-loop-first
decreases-loop-first g l = set.len l.waiting
