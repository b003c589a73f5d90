use Rattle.event_runner.proofs.Base.{◌≡◌, ◌≤◌, Goes, Begins, state_of}
use Rattle.event_runner.proofs.starting.start_all.Given as goal

abbrev pub invariant-loop-started : goal.invariant-loop-started
invariant-loop-started g l = record {
  goes : Goes (Begins l.reading l.started) (state_of (g.D.Desk.known l.initial.desk) l.initial.kept (g.W.World.log l.initial.world)) (state_of (g.D.Desk.known l.desk) l.kept (g.W.World.log l.world));
  waits : g.W.World.wait_faults l.world ≡ g.W.World.wait_faults l.initial.world;
  faults : g.W.World.faults l.initial.world ≤ g.W.World.faults l.world;
  origin : g.W.World.origin l.world ≡ g.W.World.origin l.initial.world;
}
