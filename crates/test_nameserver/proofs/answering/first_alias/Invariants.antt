use Rattle.std.proofs.Common.{◌≡◌, map, drop}
use Rattle.std.specs.Prelude.{find}
use Rattle.test_nameserver.specs.Answers.{is_alias}
use Rattle.test_nameserver.proofs.answering.first_alias.Given as goal

-- the first alias of those that are left is the first of all
abbrev pub invariant-loop-item : goal.invariant-loop-item
invariant-loop-item l = find is_alias (map (λ item. item.now) (drop l.item-index l.found)) ≡ find is_alias (map (λ item. item.now) l.found)
