use Rattle.std.proofs.Common.{◌≡◌, ◌≤◌, ◌-◌, length, drop}
use Rattle.dns_message.specs.Validity.{behind_room}
use Rattle.dns_message.proofs.held_rdata.plain_name_end.Given as goal

-- what is behind the labels that are left is what is behind the name
abbrev pub invariant-loop-at : goal.invariant-loop-at
invariant-loop-at l = record {
  after : l.start ≤ l.at;
  read : behind_room 255 (drop l.start l.bytes) ≡ behind_room (255 - (l.at - l.start)) (drop l.at l.bytes);
}

abbrev pub decreases-loop-at : goal.decreases-loop-at
decreases-loop-at l = length l.bytes - l.at
