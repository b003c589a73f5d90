use Rattle.dns_message.proofs.WireLemmas.{wire_size, wire_short}
use Rattle.dns_message.proofs.name.Name.wire_len.Goals as goal

pub returns-clause-value : goal.returns-clause-value
returns-clause-value c = rw (c.as_slice.ensures.value, ← c.self.view_is) (wire_size _ _ c.self.invariant)

pub returns-clause-short : goal.returns-clause-short
returns-clause-short c = rw c.as_slice.ensures.value (wire_short _ _ c.self.invariant)
