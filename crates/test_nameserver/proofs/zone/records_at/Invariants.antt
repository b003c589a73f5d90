use Rattle.std.proofs.Common.{◌≡◌, map, filter, take}
use Rattle.test_nameserver.specs.Index.{has_key}
use Rattle.test_nameserver.proofs.zone.records_at.Given as goal

-- the records so far are the first of those that have the key
abbrev pub invariant-loop-index : goal.invariant-loop-index
invariant-loop-index l = map (λ item. item.now) l.found.items ≡ take l.index-index (filter (has_key l.key) l.records)
