use Rattle.std.proofs.Common.{◌≡◌, ◌+◌, ◌-◌, ◌≤◌, length}
use Rattle.std.specs.Prelude.{slice_range}
use Rattle.dns_message.specs.Reading.{joined_of, appended, or_else, expanded_name}
use Rattle.dns_message.proofs.rdata.expanded.Given as goal

-- the bytes so far, and those of the names that are left, are all
abbrev pub invariant-loop : goal.invariant-loop
invariant-loop l = record {
  within : l.next ≤ length l.bytes;
  read : appended l.rdata.items (joined_of (λ q. or_else l.bad (expanded_name l.bytes q)) (l.shape.names - l.counter) l.next)
      ≡ appended (slice_range l.bytes l.at (l.at + l.shape.front)) (joined_of (λ q. or_else l.bad (expanded_name l.bytes q)) l.shape.names (l.at + l.shape.front));
}
