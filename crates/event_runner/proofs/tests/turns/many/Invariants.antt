use Rattle.event_runner.proofs.Base.{All, MayCome}
use Rattle.event_runner.proofs.tests.turns.many.Given as goal

abbrev pub invariant-loop-byte : goal.invariant-loop-byte
invariant-loop-byte l = All (λ item. MayCome item.got) l.items.items
