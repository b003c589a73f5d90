use Rattle.std.specs.Prelude.{All}
use Rattle.net_world.specs.Script.{MayCome}
use Rattle.channel_bench.proofs.adig.noise.strays.Given as goal

abbrev pub invariant-loop-at : goal.invariant-loop-at
invariant-loop-at l = All (λ item. MayCome item.got) l.items.items
