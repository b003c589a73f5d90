use Rattle.std.proofs.Common.{◌≡◌, length, map}
use Rattle.dns_rdata.specs.Parts.{labels_in}
use Rattle.dns_rdata.proofs.PartsLemmas.{behind}
use Rattle.dns_rdata.proofs.parts.labels_in.Given as goal

-- the labels so far, and those that are left, are all
abbrev pub invariant-loop-label : goal.invariant-loop-label
invariant-loop-label l = labels_in l.bytes ≡ behind (map (λ label. label.now) l.labels.items) (labels_in l.rest)

abbrev pub decreases-loop-label : goal.decreases-loop-label
decreases-loop-label l = length l.rest
