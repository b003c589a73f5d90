use Rattle.leg_index.proofs.WaitingLemmas.{none_leaves}
use Rattle.leg_index.proofs.waiting.drop_apart.Goals as goal

-- an empty tree is without the leg
pub returns-then-is_empty : goal.returns-then-is_empty
returns-then-is_empty c = none_leaves c.args.leg c.args.rest.now (c.is_empty.ensures.0 c.if-is_empty.true)
