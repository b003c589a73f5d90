use Rattle.event_runner.proofs.Base.{◌≡◌, ◌≤◌, Goes, Hears, state_of}
use Rattle.event_runner.proofs.receiving.receive_all.Given as goal

abbrev pub invariant-loop-received : goal.invariant-loop-received
invariant-loop-received g l = record {
  goes : Goes (Hears l.reading l.received) (state_of (g.D.Desk.known l.initial.desk) l.initial.kept (g.W.World.log l.initial.world)) (state_of (g.D.Desk.known l.desk) l.kept (g.W.World.log l.world));
  waits : g.W.World.wait_faults l.world ≡ g.W.World.wait_faults l.initial.world;
  faults : g.W.World.faults l.initial.world ≤ g.W.World.faults l.world;
  origin : g.W.World.origin l.world ≡ g.W.World.origin l.initial.world;
}
