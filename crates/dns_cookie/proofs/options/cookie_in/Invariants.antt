use Rattle.std.proofs.Common.{◌≡◌, List, length, Ok}
use Rattle.edns_opt.specs.Reading.{options_of}
use Rattle.edns_opt.specs.declared.opt.EdnsItem.{EdnsItem}
use Rattle.dns_cookie.proofs.OptionsLemmas.{OptionsLeft}
use Rattle.dns_cookie.proofs.options.cookie_in.Given as goal

-- the first cookie of the options that are left is that of all
abbrev pub invariant-loop-rest : goal.invariant-loop-rest
invariant-loop-rest l = (items : List EdnsItem) → options_of l.rdata ≡ Ok items → OptionsLeft items l.rest

abbrev pub decreases-loop-rest : goal.decreases-loop-rest
decreases-loop-rest l = length l.rest
