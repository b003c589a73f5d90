use Rattle.std.proofs.Common.{◌≡◌, ◌-◌, ◌≤◌, length}
use Rattle.std.specs.Prelude.{IfSome, slice_get}
use Rattle.dns_message.specs.Pointers.{StandsAt}
use Rattle.dns_message.specs.Reading.{items_of, record_of}
use Rattle.dns_message.proofs.ItemLemmas.{prefixed}
use Rattle.dns_message.proofs.decoding.records_at.Given as goal

-- the items so far, and those that are left, are all; and the place is the last one's
abbrev pub invariant-loop : goal.invariant-loop
invariant-loop l = record {
  within : l.next ≤ length l.bytes;
  counted : length l.records.items ≡ l.counter;
  last : IfSome (slice_get l.records.items (length l.records.items - 1)) (λ last. StandsAt l.bytes l.place last.name);
  read : prefixed l.records.items (items_of (record_of l.bytes) (l.count - l.counter) l.next) ≡ items_of (record_of l.bytes) l.count l.at;
}
