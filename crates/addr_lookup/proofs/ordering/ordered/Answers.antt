use Rattle.std.proofs.Common.{◌∙◌}
use Rattle.addr_lookup.proofs.OrderLemmas.{sorted_as}
use Rattle.addr_lookup.proofs.ordering.ordered.Goals as goal

pub returns : goal.returns
returns c = rw c.if-nosort.false (sorted_as _ _ _ _ _ (c.as_slice-2.ensures ∙ c.sources.ensures.value) c.as_slice.ensures c.in_ok-sorted.ensures)
