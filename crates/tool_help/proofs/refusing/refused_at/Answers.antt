use Rattle.std.proofs.Common.{arith, refl}
use Rattle.tool_help.proofs.TakenLemmas.{none_stand, some_stand}
use Rattle.tool_help.proofs.refusing.refused_at.Goals as goal

pub returns-then-branch : goal.returns-then-branch
returns-then-branch c = some_stand c.args.tool (λ word. word.now) c.args.words.now c.loop-count.count _ refl (rw c.if-branch.true at c.in_ok-may_stand.ensures) c.loop-count.invariant

pub returns : goal.returns
returns c = none_stand c.args.tool (λ word. word.now) c.args.words.now c.loop-count.count (omega (arith, c.loop-count-test.false)) c.loop-count.invariant
