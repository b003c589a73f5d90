use Rattle.std.proofs.Common.{map}
use Rattle.tool_help.proofs.TakenLemmas.{StandsAtMost}
use Rattle.tool_help.proofs.refusing.refused_at.Given as goal

abbrev pub invariant-loop-count : goal.invariant-loop-count
invariant-loop-count l = StandsAtMost l.tool (λ word. word.now) l.words l.count

abbrev pub decreases-loop-count : goal.decreases-loop-count
decreases-loop-count l = l.count
