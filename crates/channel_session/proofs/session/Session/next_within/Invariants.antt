use Rattle.std.proofs.Common.{[], ◌≡◌, ◌≤◌, ◌+◌}
use Rattle.channel_session.specs.Advancing.{Advances}
use Rattle.channel_session.specs.Sitting.{moment_of}
use Rattle.channel_session.proofs.session.Session.next_within.Given as goal

-- a turn was made in each pass so far, and isn't left any more
abbrev pub invariant-loop : goal.invariant-loop
invariant-loop g l = record {
  advances : Advances l.counter [] (moment_of (g.D.Desk.known l.fn.desk) l.fn.self (g.W.World.log l.fn.world)) (moment_of (g.D.Desk.known l.desk) l.self (g.W.World.log l.world));
  left : l.counter + l.left ≡ l.fn.left;
  waits : g.W.World.wait_faults l.fn.world ≤ g.W.World.wait_faults l.world;
  origin : g.W.World.origin l.world ≡ g.W.World.origin l.fn.world;
}
