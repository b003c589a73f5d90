use Rattle.std.proofs.Common.{◌≡◌, ◌++◌, length}
use Rattle.std.specs.List.{flat_map}
use Rattle.dns_message.specs.Wire.{labels_in, AreLabels}
use Rattle.dns_message.specs.NamePrinting.{printed_label}
use Rattle.dns_message.proofs.name.Name.to_text.Given as goal

-- the text so far and the labels that are left make the name's text
abbrev pub invariant-loop-rest : goal.invariant-loop-rest
invariant-loop-rest l = record {
  spelled : AreLabels l.rest;
  text : l.text.items ++ flat_map printed_label (labels_in l.rest) ≡ l.initial.text.items ++ flat_map printed_label l.self;
}

abbrev pub decreases-loop-rest : goal.decreases-loop-rest
decreases-loop-rest l = length l.rest
