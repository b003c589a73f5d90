use Rattle.std.proofs.Common.{◌≡◌, fold, filter, take}
use Rattle.dest_sorting.specs.Policy.{longer, covers, everything}
use Rattle.dest_sorting.proofs.policy.longest.Given as goal

-- the best row is that of the rows looked at so far
abbrev pub invariant-loop-row : goal.invariant-loop-row
invariant-loop-row l = l.best ≡ fold longer everything (filter (covers l.address) (take l.row-index l.rows))
