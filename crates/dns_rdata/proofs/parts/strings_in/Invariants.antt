use Rattle.std.proofs.Common.{◌≡◌, length}
use Rattle.dns_rdata.specs.Parts.{strings_in}
use Rattle.dns_rdata.proofs.PartsLemmas.{after}
use Rattle.dns_rdata.proofs.parts.strings_in.Given as goal

-- the strings so far, and those that are left, are all
abbrev pub invariant-loop-rest : goal.invariant-loop-rest
invariant-loop-rest l = strings_in l.bytes ≡ after l.strings (strings_in l.rest)

abbrev pub decreases-loop-rest : goal.decreases-loop-rest
decreases-loop-rest l = length l.rest
