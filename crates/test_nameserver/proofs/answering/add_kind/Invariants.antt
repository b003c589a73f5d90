use Rattle.std.proofs.Common.{◌≡◌, ◌++◌, map, take}
use Rattle.test_nameserver.specs.Answers.{of_kind}
use Rattle.test_nameserver.proofs.answering.add_kind.Given as goal

-- behind the answers from before stand those of the type among the first records
abbrev pub invariant-loop-item : goal.invariant-loop-item
invariant-loop-item l = l.answers ≡ l.initial.answers ++ of_kind l.kind (map (λ item. item.now) (take l.item-index l.found))
