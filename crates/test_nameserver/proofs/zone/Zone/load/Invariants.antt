use Rattle.std.proofs.Common.{◌≡◌}
use Rattle.test_nameserver.specs.Load.{load_zone}
use Rattle.test_nameserver.proofs.zone.Zone.load.Given as goal

-- the hosts so far
abbrev pub invariant-loop-number : goal.invariant-loop-number
invariant-loop-number l = l.zone ≡ load_zone l.number
