use Rattle.std.proofs.Common.{length}
use Rattle.edns_opt.proofs.OptionsLemmas.{Read}
use Rattle.edns_opt.proofs.reading.options_of.Given as goal

abbrev pub invariant-loop-rest : goal.invariant-loop-rest
invariant-loop-rest l = Read l.rdata l.rest l.options

abbrev pub decreases-loop-rest : goal.decreases-loop-rest
decreases-loop-rest l = length l.rest
