use Rattle.std.proofs.Common.{◌≡◌, length}
use Rattle.message_walk.proofs.OptionLemmas.{are_read}
use Rattle.message_walk.proofs.options.are_options.Given as goal

-- all are options exactly where those are that are left
abbrev pub invariant-loop-rest : goal.invariant-loop-rest
invariant-loop-rest l = are_read l.rdata ≡ are_read l.rest

abbrev pub decreases-loop-rest : goal.decreases-loop-rest
decreases-loop-rest l = length l.rest
