use Rattle.std.proofs.Common.{◌≡◌, [], arith}
use Rattle.edns_opt.specs.Opt.{opt_records}
use Rattle.edns_opt.proofs.OptLemmas.{added_again}
use Rattle.edns_opt.proofs.writing.with_opt.Goals as goal

pub returns-clause-found_again : goal.returns-clause-found_again
returns-clause-found_again c =
    let are = rw c.as_slice.ensures at c.in_ok-rdata.ensures in
    λ (none : opt_records c.args.message ≡ []).
    rw (c.in_ok-push.ensures.ok, c.opt_record.ensures, c.ttl_of.ensures, are.parts)
    (added_again c.args.message c.args.opt.now (record { size = omega arith; ext_rcode = omega arith; version = omega arith; options = are.each }) none)
