use Rattle.std.proofs.Common.{length}
use Rattle.dns_message.specs.Name.{LastIs}
use Rattle.dns_message.specs.Wire.{labels_in, AreLabels}
use Rattle.dns_message.proofs.name.Name.last_is.Given as goal

-- the last of the labels that are left is the name's last one
abbrev pub invariant-loop-rest : goal.invariant-loop-rest
invariant-loop-rest l = record {
  spelled : AreLabels l.rest;
  to : LastIs (labels_in l.rest) l.label → LastIs l.self l.label;
  from : LastIs l.self l.label → LastIs (labels_in l.rest) l.label;
}

abbrev pub decreases-loop-rest : goal.decreases-loop-rest
decreases-loop-rest l = length l.rest
