use Rattle.std.proofs.Common.{length}
use Rattle.host_lookups.specs.Extending.{Extends, StandsStill, TakesNone}
use Rattle.host_lookups.proofs.delivering.deliver.Given as goal

-- the commands so far were performed, and took nothing
abbrev pub invariant-loop-command : goal.invariant-loop-command
invariant-loop-command l = record {
  extends : Extends l.fn.channel l.channel;
  stands : StandsStill l.fn.channel l.channel;
  takes : TakesNone l.fn.channel l.channel;
}

abbrev pub decreases-loop-command : goal.decreases-loop-command
decreases-loop-command l = length l.hand.commands
