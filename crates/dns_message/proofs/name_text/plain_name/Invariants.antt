use Rattle.std.proofs.Common.{◌≡◌, ◌≤◌, ◌<◌, ◌+◌, ◌-◌, length, take}
use Rattle.std.specs.Prelude.{vec_capacity}
use Rattle.dns_message.specs.Wire.{IsWire}
use Rattle.dns_message.proofs.PlainNameLemmas.{SoFar}
use Rattle.dns_message.proofs.name_text.plain_name.Given as goal

-- the labels in front of the start are whole, and behind the place for a length stands the label that goes on
abbrev pub invariant-loop-at : goal.invariant-loop-at
invariant-loop-at l = record {
  start : l.start ≤ l.at;
  end : l.at ≤ length l.text;
  short : length l.text < 255;
  long : length l.wire.items ≡ l.at + 1;
  room : length l.text + 1 ≤ vec_capacity l.wire;
  whole : IsWire (take l.start l.wire.items) l.count;
  read : SoFar l.text l.wire.items l.start l.at;
}

abbrev pub decreases-loop-at : goal.decreases-loop-at
decreases-loop-at l = length l.text - l.at
