use Rattle.edns_opt.proofs.OptLemmas.{opt_again, cause_again, opt_holds}
use Rattle.edns_opt.proofs.laws.opt_is_computed.Goals as goal

pub returns : goal.returns
returns c = record { found = opt_again; cause = cause_again; either = opt_holds }
