use Rattle.std.proofs.Common.{◌≡◌, ◌+◌, ◌-◌, ◌==◌, ◌++◌, false, ltb, refl, arith}
use Rattle.std.specs.Prelude.{◌||◌, not, slice_range}
use Rattle.std.proofs.lemmas.Bool.Decides.{nat_tests}
use Rattle.message_walk.proofs.rdata.check_names.Goals as goal

pub returns-clause-read : goal.returns-clause-read
returns-clause-read c =
    let ended = c.in_ok-next.ensures.read in
    let front : ltb c.args.len c.args.shape.front ≡ false = grind (arith, nat_tests) in
    let back : (ltb (c.args.at + c.args.len) c.in_ok-next.next || not (c.args.at + c.args.len - c.in_ok-next.next == c.args.shape.back)) ≡ false = grind (arith, nat_tests) in (
      (slice_range c.args.bytes.now c.args.at (c.args.at + c.args.shape.front) ++ ended.0) ++ slice_range c.args.bytes.now c.in_ok-next.next (c.args.at + c.args.len),
      rw (front, ended.1, back) refl,
    )
