use Rattle.std.proofs.Common.{◌≡◌, ◌++◌, take}
use Rattle.std.specs.List.{flat_map, AllByRecursion}
use Rattle.dns_message.specs.Message.{IsRecord}
use Rattle.dns_message.specs.Spelling.{record_bytes}
use Rattle.dns_message.proofs.encoding.put_records.Given as goal

abbrev pub invariant-loop-item : goal.invariant-loop-item
invariant-loop-item l = record {
  put : l.out.items ≡ l.fn.out.items ++ flat_map record_bytes (take l.item-index l.records);
  typed : AllByRecursion IsRecord (take l.item-index l.records);
}
