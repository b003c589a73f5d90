use Rattle.event_runner.proofs.Base.{◌≡◌, ◌-◌, ◌≤◌, vec_len, Goes, WritesUpTo, state_of}
use Rattle.event_runner.proofs.writing.write_all.Given as goal

abbrev pub invariant-loop-index : goal.invariant-loop-index
invariant-loop-index g l = record {
  goes : Goes (WritesUpTo l.reading l.index) (state_of (g.D.Desk.known l.initial.desk) l.initial.kept (g.W.World.log l.initial.world)) (state_of (g.D.Desk.known l.desk) l.kept (g.W.World.log l.world));
  within : l.index ≤ vec_len l.kept.links;
  waits : g.W.World.wait_faults l.world ≡ g.W.World.wait_faults l.initial.world;
  faults : g.W.World.faults l.initial.world ≤ g.W.World.faults l.world;
  origin : g.W.World.origin l.world ≡ g.W.World.origin l.initial.world;
}

abbrev pub decreases-loop-index : goal.decreases-loop-index
decreases-loop-index g l = vec_len l.kept.links - l.index
