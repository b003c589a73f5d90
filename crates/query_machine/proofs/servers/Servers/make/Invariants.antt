use Rattle.std.proofs.Common.{map, ◌≡◌}
use Rattle.query_machine.specs.Servers.{failing_of, fresh_servers}
use Rattle.query_machine.proofs.servers.Servers.make.Given as goal

-- the servers up to this key are there
abbrev pub invariant-loop-key : goal.invariant-loop-key
invariant-loop-key l = map failing_of l.counts.items ≡ fresh_servers l.key
