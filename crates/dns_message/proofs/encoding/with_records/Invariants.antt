use Rattle.std.proofs.Common.{◌≡◌, ◌+◌, ◌≤◌, length, take}
use Rattle.std.specs.List.{flat_map}
use Rattle.dns_message.specs.Spelling.{record_bytes}
use Rattle.dns_message.proofs.encoding.with_records.Given as goal

abbrev pub invariant-loop-item : goal.invariant-loop-item
invariant-loop-item l = (l.total ≤ 65535) × (l.total ≡ l.size + length (flat_map record_bytes (take l.item-index l.records)))
