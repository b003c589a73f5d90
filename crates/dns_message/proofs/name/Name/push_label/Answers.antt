use Rattle.std.proofs.Common.{◌≡◌, ◌++◌, ap, ◌∙◌, append_assoc, arith, ◌∷◌, [], length}
use Rattle.dns_message.specs.Wire.{label_bytes, labels_in}
use Rattle.dns_message.proofs.WireLemmas.{wire_many, wire_more, labels_more}
use Rattle.dns_message.proofs.name.Name.push_label.Goals as goal

pub overflow_add-self : goal.overflow_add-self
overflow_add-self c = omega (arith, wire_many _ _ c.self.invariant)

pub invariant_of-self-2 : goal.invariant_of-self-2
invariant_of-self-2 c =
    let items : c.extend_from_slice.new.self.items ≡ c.self.inside.wire.items ++ label_bytes c.args.label.now = rw (c.extend_from_slice.ensures.items, c.unwrap.ensures, c.push_reserved.ensures.items, c.in_ok-reserve.ensures.items) (append_assoc c.self.inside.wire.items (length c.args.label.now ∷ []) c.args.label.now) in
    rw items (wire_more _ _ c.args.label.now c.self.invariant c.requires.label (rw (c.self.view_is, c.make_room.ensures) c.requires.room))

pub returns-clause-ok : goal.returns-clause-ok
returns-clause-ok c =
    let items : c.extend_from_slice.new.self.items ≡ c.self.inside.wire.items ++ label_bytes c.args.label.now = rw (c.extend_from_slice.ensures.items, c.unwrap.ensures, c.push_reserved.ensures.items, c.in_ok-reserve.ensures.items) (append_assoc c.self.inside.wire.items (length c.args.label.now ∷ []) c.args.label.now) in
    rw (← c.make_room.ensures, ← c.self.view_is) (ap labels_in items ∙ labels_more _ _ c.args.label.now c.self.invariant c.requires.label (rw (c.self.view_is, c.make_room.ensures) c.requires.room))
