use Rattle.std.proofs.Common.{◌≡◌, ◌≤◌, ◌<◌, length}
use Rattle.std.specs.Prelude.{IfSome, IfNone}
use Rattle.dns_message.specs.Reading.{name_of}
use Rattle.dns_message.proofs.RunLemmas.{name_from, ending}
use Rattle.dns_message.proofs.name_reading.name_at.Given as goal

-- the name is that of the run from here on, and ends behind its first pointer
abbrev pub invariant-loop-name : goal.invariant-loop-name
invariant-loop-name l = record {
  before : l.run ≤ l.start;
  first : IfNone l.after (l.run ≡ l.start);
  after : IfSome l.after (λ after. (l.start < after) × (after ≤ length l.bytes));
  read : name_of l.bytes l.start ≡ ending l.after (name_from l.bytes l.start l.run l.name);
}

abbrev pub decreases-loop-name : goal.decreases-loop-name
decreases-loop-name l = l.run
