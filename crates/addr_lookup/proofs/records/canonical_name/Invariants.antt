use Rattle.std.proofs.Common.{◌≡◌, drop}
use Rattle.channel_model.specs.Merge.{canonical_name as canonical_of}
use Rattle.addr_lookup.proofs.records.canonical_name.Given as goal

-- the name so far, and then the aliases of the records that are still to come
abbrev pub invariant-loop-item : goal.invariant-loop-item
invariant-loop-item l = canonical_of l.name (drop l.item-index l.records) ≡ canonical_of l.candidate l.records
