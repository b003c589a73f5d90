use Rattle.timeout_queue.specs.Rows.{is_live}
use Rattle.timeout_queue.proofs.MomentLemmas.{none_live}
use Rattle.timeout_queue.proofs.queue.Queue.make.Goals as goal

-- nothing is live
pub invariant_of-result : goal.invariant_of-result
invariant_of-result c =
    c.new-2.ensures (is_live c.with_hasher.result) (none_live c.with_hasher.result c.with_hasher.ensures.empty)
