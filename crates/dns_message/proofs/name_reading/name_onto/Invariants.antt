use Rattle.std.proofs.Common.{◌≡◌, ℕ, List, ◌≤◌, ◌<◌, ◌++◌, length}
use Rattle.std.specs.Prelude.{IfSome, IfNone}
use Rattle.dns_message.specs.Name.{wire_length}
use Rattle.dns_message.specs.Reading.{name_of}
use Rattle.dns_message.specs.Wire.{wire_bytes}
use Rattle.dns_message.proofs.RunLemmas.{name_from, ending}
use Rattle.dns_message.proofs.name_reading.name_onto.Given as goal

-- some labels were met and written, and the name is that of the run from here on behind them, and ends behind its first pointer
abbrev pub invariant-loop-found : goal.invariant-loop-found
invariant-loop-found l = record {
  before : l.run ≤ l.start;
  some : 1 ≤ l.taken;
  few : l.taken ≤ 255;
  first : IfNone l.after (l.run ≡ l.start);
  after : IfSome l.after (λ after. (l.start < after) × (after ≤ length l.bytes));
  read : (front : List (List ℕ)) × (wire_length front ≡ l.taken) × (name_of l.bytes l.start ≡ ending l.after (name_from l.bytes l.start l.run front))
      × (l.out.items ≡ l.initial.out.items ++ wire_bytes front);
}

abbrev pub decreases-loop-found : goal.decreases-loop-found
decreases-loop-found l = l.run
