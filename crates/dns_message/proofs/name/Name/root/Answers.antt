use Rattle.std.proofs.Common.{ap, ◌∙◌}
use Rattle.dns_message.specs.Wire.{labels_in}
use Rattle.dns_message.proofs.WireLemmas.{wire_none, labels_none}
use Rattle.dns_message.proofs.name.Name.root.Goals as goal

pub invariant_of-result : goal.invariant_of-result
invariant_of-result c = rw c.new.ensures.items wire_none

pub returns : goal.returns
returns c = ap labels_in c.new.ensures.items ∙ labels_none
