use Rattle.std.proofs.Common.{map, take, ◌≡◌, ◌≤◌}
use Rattle.acache_tool.specs.Growing.{IsIdle}
use Rattle.acache_tool.specs.Naming.{scene_of}
use Rattle.acache_tool.proofs.LoopLemmas.{Brought}
use Rattle.acache_tool.proofs.asking.ask_all.Given as goal

-- the names so far were brought to their answers
abbrev pub invariant-loop-name : goal.invariant-loop-name
invariant-loop-name g l = record {
  brought : Brought (map (λ name. name.now) (take l.name-index l.names)) (scene_of l.fn.asker l.fn.shown (g.W.World.log l.fn.world)) (scene_of l.asker l.shown (g.W.World.log l.world));
  idle : IsIdle l.asker.alone;
  waits : g.W.World.wait_faults l.fn.world ≤ g.W.World.wait_faults l.world;
  origin : g.W.World.origin l.world ≡ g.W.World.origin l.fn.world;
}
