use Rattle.event_runner.proofs.Base.{◌≡◌, ◌≤◌, length, ℕ, Bool, List, Row, Known, Goes, WritesTo, with_row}
use Rattle.event_runner.proofs.writing.flush.Given as goal

abbrev pub invariant-loop-world : goal.invariant-loop-world
invariant-loop-world g l = record {
  goes : (reading : ℕ) (known : Known) (before after : List Row) (keys : List ℕ) (mix : Bool) →
      Goes (WritesTo reading l.initial.link.number) (with_row reading known before after keys mix l.initial.link (g.W.World.log l.initial.world)) (with_row reading known before after keys mix l.link (g.W.World.log l.world));
  number : l.link.number ≡ l.initial.link.number;
  server : l.link.server ≡ l.initial.link.server;
  waits : g.W.World.wait_faults l.world ≡ g.W.World.wait_faults l.initial.world;
  faults : g.W.World.faults l.initial.world ≤ g.W.World.faults l.world;
  origin : g.W.World.origin l.world ≡ g.W.World.origin l.initial.world;
}

abbrev pub decreases-loop-world : goal.decreases-loop-world
decreases-loop-world g l = length l.link.unwritten
