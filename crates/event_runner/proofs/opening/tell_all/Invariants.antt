use Rattle.event_runner.proofs.Base.{◌≡◌, ◌≤◌, ◌++◌, map, take, option_map, serves_from, keyed_from}
use Rattle.event_runner.proofs.opening.tell_all.Given as goal

abbrev pub invariant-loop-key : goal.invariant-loop-key
invariant-loop-key g l = record {
  told : l.told.items ≡ map (λ s. s.key) (keyed_from 0 (take l.key l.servers));
  log : g.W.World.log l.world ≡ option_map (λ calls. calls ++ serves_from 0 (take l.key l.servers)) (g.W.World.log l.initial.world);
  waits : g.W.World.wait_faults l.world ≡ g.W.World.wait_faults l.initial.world;
  faults : g.W.World.faults l.initial.world ≤ g.W.World.faults l.world;
  clock : g.W.World.reading l.world ≡ g.W.World.reading l.initial.world;
  origin : g.W.World.origin l.world ≡ g.W.World.origin l.initial.world;
}
