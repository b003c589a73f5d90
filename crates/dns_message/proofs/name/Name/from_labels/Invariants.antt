use Rattle.std.proofs.Common.{◌≡◌, map, take, drop}
use Rattle.dns_message.specs.NameFaults.{labels_on, labels_read}
use Rattle.dns_message.proofs.name.Name.from_labels.Given as goal

abbrev pub invariant-loop-i : goal.invariant-loop-i
invariant-loop-i l = record {
  made : l.name ≡ map (λ label. label.now) (take l.i l.labels);
  left : labels_read (map (λ label. label.now) l.labels) ≡ labels_on l.name l.i (map (λ label. label.now) (drop l.i l.labels));
}
