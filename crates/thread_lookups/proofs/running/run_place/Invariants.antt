use Rattle.std.proofs.Common.{◌≡◌, ◌≤◌}
use Rattle.thread_lookups.specs.Passing.{OnlyRuns}
use Rattle.thread_lookups.proofs.running.run_place.Given as goal

abbrev pub invariant-loop : goal.invariant-loop
invariant-loop g l = record {
  asks : OnlyRuns l.fn.place l.place;
  waits : g.W.World.wait_faults l.fn.world ≤ g.W.World.wait_faults l.world;
  origin : g.W.World.origin l.world ≡ g.W.World.origin l.fn.world;
}
