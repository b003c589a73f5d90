use Rattle.std.proofs.Common.{◌≡◌, ◌/◌, ◌%◌, ◌^◌, refl, arith}
use Rattle.edns_opt.proofs.OptLemmas.{do_in_byte}
use Rattle.edns_opt.proofs.reading.opt_with.Goals as goal

pub returns : goal.returns
returns c =
    let high : c.args.ttl / 2 ^ 24 % 256 ≡ c.args.ttl / 2 ^ 24 = omega arith in
    rw (c.to_be_bytes.ensures, high, do_in_byte c.args.ttl) refl
