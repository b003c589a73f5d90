use Rattle.test_nameserver.proofs.IndexLemmas.{indexed_more}
use Rattle.test_nameserver.proofs.zone.Zone.with.Goals as goal

pub invariant_of-result : goal.invariant_of-result
invariant_of-result c =
    rw c.in_ok-push.ensures.items
    (indexed_more _ _ _ _ c.self.invariant c.in_ok-key.ensures.name (rw (c.as_slice.ensures.value, c.in_ok-key.ensures.key) at c.in_ok-add_index.ensures))
