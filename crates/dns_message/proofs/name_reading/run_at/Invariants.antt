use Rattle.std.proofs.Common.{◌≡◌, ℕ, List, ◌++◌, ◌+◌, ◌-◌, ◌≤◌, length}
use Rattle.std.specs.Prelude.{slice_range}
use Rattle.dns_message.specs.Name.{wire_length}
use Rattle.dns_message.specs.Reading.{run_of}
use Rattle.dns_message.specs.Wire.{labels_in, IsWire}
use Rattle.dns_message.proofs.name_reading.run_at.Given as goal

-- the labels so far stand in the message, and what is left of the run is the rest of the whole run
abbrev pub invariant-loop-at : goal.invariant-loop-at
invariant-loop-at l = record {
  from : l.run ≤ l.at;
  wire : IsWire (slice_range l.bytes l.run l.at) l.count;
  room : l.taken + (l.at - l.run) ≤ 255;
  read : (front : List (List ℕ)) → wire_length front ≡ l.taken → run_of l.bytes l.start l.run front ≡ run_of l.bytes l.start l.at (front ++ labels_in (slice_range l.bytes l.run l.at));
}

abbrev pub decreases-loop-at : goal.decreases-loop-at
decreases-loop-at l = length l.bytes - l.at
