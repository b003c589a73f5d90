use Rattle.std.proofs.Common.{ap, ◌∙◌, arith}
use Rattle.dns_message.specs.Wire.{labels_in}
use Rattle.dns_message.proofs.WireLemmas.{wire_many, wire_both, labels_both}
use Rattle.dns_message.proofs.name.Name.append_wire.Goals as goal

pub overflow_add-self : goal.overflow_add-self
overflow_add-self c = omega (arith, wire_many _ _ c.self.invariant, wire_many _ _ c.requires.wire)

pub invariant_of-self-2 : goal.invariant_of-self-2
invariant_of-self-2 c = rw c.in_ok-extend_from_slice.ensures.items (wire_both _ _ _ _ c.self.invariant c.requires.wire (rw (c.self.view_is, c.make_room.ensures) c.requires.room))

pub returns : goal.returns
returns c = rw (← c.make_room.ensures, ← c.self.view_is) (ap labels_in c.in_ok-extend_from_slice.ensures.items ∙ labels_both _ _ _ _ c.self.invariant c.requires.wire (rw (c.self.view_is, c.make_room.ensures) c.requires.room))
