use Rattle.std.proofs.Common.{◌≡◌, ◌≤◌, IfSome, [], length}
use Rattle.channel_model.specs.Completion.{ready}
use Rattle.channel_model.specs.Journal.{past_of}
use Rattle.event_runner.specs.UnderWay.{rested}
use Rattle.owner_session.specs.Returning.{KeepsPlaces}
use Rattle.owner_session.proofs.LoopLemmas.{Made}
use Rattle.owner_session.proofs.ThenLemmas.{Then}
use Rattle.owner_session.proofs.session.make_turns.Given as goal

-- between two turns what is ready was delivered, and the run rested; the later servers are set once a turn was made, and bodies stay at their places
abbrev pub invariant-loop : goal.invariant-loop
invariant-loop g l = record {
  made : Made rested l.counter l.fn.caller l.caller l.fn.runner l.runner (g.W.World.log l.fn.world) (g.W.World.log l.world);
  sets : Then l.fn.later l.later l.counter l.fn.caller l.caller l.fn.runner (g.W.World.log l.fn.world) (g.W.World.log l.world);
  delivered : ready l.caller.alone.setting (past_of l.caller.alone.seen) ≡ [];
  servers : IfSome l.later (λ later. (1 ≤ length later) × (length later ≤ 8));
  places : KeepsPlaces g.B.Done.name g.B.Done.told l.fn.caller l.caller;
  waits : g.W.World.wait_faults l.fn.world ≤ g.W.World.wait_faults l.world;
  origin : g.W.World.origin l.world ≡ g.W.World.origin l.fn.world;
}
