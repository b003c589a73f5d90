use Rattle.std.proofs.Common.{map, take, ◌≡◌}
use Rattle.query_machine.specs.Servers.{failing_of, renewed}
use Rattle.query_machine.proofs.servers.Servers.renew.Given as goal

-- the servers so far have their counts
abbrev pub invariant-loop-server : goal.invariant-loop-server
invariant-loop-server l = map failing_of l.counts.items ≡ renewed (take l.server-index l.server-items) (map failing_of l.self-inside.counts.items)
