use Rattle.std.proofs.Common.{length, map, take, ◌≡◌}
use Rattle.host_lookups.specs.Extending.{Extends, StandsStill}
use Rattle.host_lookups.specs.Many.{asked_from}
use Rattle.host_lookups.proofs.many.accept_all.Given as goal

-- the requests of the names so far were accepted, and nothing else happened
abbrev pub invariant-loop-index : goal.invariant-loop-index
invariant-loop-index l = record {
  adds : l.channel.seen ≡ asked_from 0 (length l.names) (map (λ name. name.now) (take l.index l.names));
  extends : Extends l.fn.channel l.channel;
  stands : StandsStill l.fn.channel l.channel;
  silent : l.channel.voice ≡ 0;
}
