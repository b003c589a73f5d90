use Rattle.std.proofs.Common.{◌<◌, ◌^◌, arith}
use Rattle.edns_opt.proofs.OptLemmas.{says}
use Rattle.edns_opt.proofs.reading.said_by.Goals as goal

pub returns-clause-found : goal.returns-clause-found
returns-clause-found c =
    let rr = c.args.item.now in
    let are = rw c.as_slice.ensures at c.in_ok-options.ensures.found in
    let class_fits : rr.class < 2 ^ 16 = omega arith in
    let ttl_fits : rr.ttl < 2 ^ 32 = omega arith in
    rw c.opt_with.ensures (says rr c.in_ok-options.options class_fits ttl_fits are)
