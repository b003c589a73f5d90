use Rattle.std.proofs.Common.{◌≡◌, ◌∙◌, ap}
use Rattle.dns_message.specs.Mixing.{mixed_label}
use Rattle.dns_message.specs.Wire.{wire_bytes}
use Rattle.dns_message.proofs.MixingLemmas.{mixed_wire, mixed_labels_in}
use Rattle.dns_message.proofs.name.Name.mixed.Goals as goal

pub of_wire-requires : goal.of_wire-requires
of_wire-requires c =
    let spelled : c.in_ok-wire.wire.items ≡ mixed_label c.args.mix 0 (wire_bytes c.args.self.now) = c.in_ok-wire.ensures ∙ ap (mixed_label c.args.mix 0) c.as_wire.ensures.value in
    rw c.labels.ensures (mixed_wire c.args.mix c.in_ok-wire.wire.items c.args.self.now spelled c.as_wire.ensures.name)

pub returns : goal.returns
returns c =
    let spelled : c.in_ok-wire.wire.items ≡ mixed_label c.args.mix 0 (wire_bytes c.args.self.now) = c.in_ok-wire.ensures ∙ ap (mixed_label c.args.mix 0) c.as_wire.ensures.value in
    c.of_wire.ensures ∙ mixed_labels_in c.args.mix c.in_ok-wire.wire.items c.args.self.now spelled c.as_wire.ensures.name
