use Rattle.timeout_queue.proofs.RowsLemmas.{none_leaves}
use Rattle.timeout_queue.proofs.rows.drop_apart.Goals as goal

-- an empty tree is without the deadline
pub returns-then-is_empty : goal.returns-then-is_empty
returns-then-is_empty c = none_leaves c.args.deadline c.args.rest.now (c.is_empty.ensures.0 c.if-is_empty.true)
