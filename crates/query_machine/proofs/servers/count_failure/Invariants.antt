use Rattle.std.proofs.Common.{map, take, drop, ◌≡◌, ◌++◌}
use Rattle.query_machine.specs.Servers.{counted_again, one_more}
use Rattle.query_machine.proofs.servers.count_failure.Given as goal

-- those before the index are counted again
abbrev pub invariant-loop-index : goal.invariant-loop-index
invariant-loop-index l = l.counts ≡ map (counted_again l.server one_more) (take l.index l.initial.counts) ++ drop l.index l.initial.counts
