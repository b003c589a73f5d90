use Rattle.std.proofs.Common.{length}
use Rattle.query_machine.proofs.judging.+has_kind.Given as goal

-- what is left to look at
abbrev pub decreases-has_kind : goal.decreases-has_kind
decreases-has_kind l = length l.records.now
