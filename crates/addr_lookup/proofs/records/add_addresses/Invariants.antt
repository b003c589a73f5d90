use Rattle.std.proofs.Common.{◌≡◌, ◌++◌, drop}
use Rattle.addr_lookup.specs.Kinds.{addresses_of_kind}
use Rattle.addr_lookup.proofs.records.add_addresses.Given as goal

-- the addresses so far, and then those of the records that are still to come
abbrev pub invariant-loop-item : goal.invariant-loop-item
invariant-loop-item l = l.addresses.items ++ addresses_of_kind l.kind (drop l.item-index l.records) ≡ l.fn.addresses.items ++ addresses_of_kind l.kind l.records
