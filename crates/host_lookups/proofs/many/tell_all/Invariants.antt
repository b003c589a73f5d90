use Rattle.std.proofs.Common.{length, [], ◌≡◌, ◌≤◌}
use Rattle.channel_session.specs.Sitting.{moment_of}
use Rattle.channel_table.specs.Calling.{known_by_owner}
use Rattle.host_lookups.proofs.GoingLemmas.{StandsOn}
use Rattle.host_lookups.specs.Extending.{AreFates, Extends}
use Rattle.host_lookups.proofs.many.tell_all.Given as goal

-- the answers so far are fates in the journal so far, one for each round; no command is left, and a run that stood stands
abbrev pub invariant-loop-round : goal.invariant-loop-round
invariant-loop-round g l = record {
  extends : Extends l.fn.channel l.channel;
  fates : AreFates l.fn.channel.setting l.channel.seen l.calls;
  idle : l.hand.commands ≡ [];
  waits : g.W.World.wait_faults l.fn.world ≤ g.W.World.wait_faults l.world;
  stands : StandsOn (moment_of (known_by_owner l.fn.channel) l.fn.session (g.W.World.log l.fn.world)) (moment_of (known_by_owner l.channel) l.session (g.W.World.log l.world));
  count : l._round ≤ length l.calls;
  origin : g.W.World.origin l.world ≡ g.W.World.origin l.fn.world;
}
