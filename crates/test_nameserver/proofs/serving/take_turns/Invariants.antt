use Rattle.std.proofs.Common.{◌≤◌}
use Rattle.test_nameserver.specs.Service.{GoesOnWith}
use Rattle.test_nameserver.specs.Turns.{AreTurns}
use Rattle.test_nameserver.proofs.serving.take_turns.Given as goal

-- so many turns were made, and none failed
abbrev pub invariant-loop : goal.invariant-loop
invariant-loop g l = record {
  turns : GoesOnWith (AreTurns l.zone l.counter) (g.L.Listener.log l.fn.listener) (g.L.Listener.log l.listener);
  later : g.L.Listener.faults l.fn.listener ≤ g.L.Listener.faults l.listener;
}
