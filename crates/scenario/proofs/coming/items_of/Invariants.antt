use Rattle.std.specs.Prelude.{All}
use Rattle.net_world.specs.Script.{MayCome}
use Rattle.scenario.proofs.coming.items_of.Given as goal

abbrev pub invariant-loop-coming : goal.invariant-loop-coming
invariant-loop-coming l = All (λ item. MayCome item.got) l.items.items
