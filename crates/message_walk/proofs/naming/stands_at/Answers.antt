use Rattle.std.proofs.Common.{◌≡◌, ◌<◌, length, drop, take, refl, ◌-◌, leb, false, arith}
use Rattle.std.proofs.lemmas.Bool.Decides.{nat_tests}
use Rattle.message_walk.proofs.FrontLemmas.{front_is, front_short, rest_of}
use Rattle.message_walk.proofs.naming.stands_at.Goals as goal

pub returns-then-part-rest : goal.returns-then-part-rest
returns-then-part-rest c =
    let rest : take (length c.args.wire.now - c.min.result) (drop c.min.result c.args.wire.now) ≡ drop c.args.at c.args.wire.now = rw c.min.ensures (rest_of c.args.at c.args.wire.now) in
    front_is c.args.exact c.args.part.now (drop c.args.at c.args.wire.now) c.same_bytes.result (rw rest at c.if-part-rest.true) (rw rest at c.same_bytes.ensures)

pub returns-else-part-rest : goal.returns-else-part-rest
returns-else-part-rest c =
    let rest : take (length c.args.wire.now - c.min.result) (drop c.min.result c.args.wire.now) ≡ drop c.args.at c.args.wire.now = rw c.min.ensures (rest_of c.args.at c.args.wire.now) in
    let short : length (drop c.args.at c.args.wire.now) < length c.args.part.now = rw rest at c.if-part-rest.false in
    let test : leb (length c.args.part.now) (length (drop c.args.at c.args.wire.now)) ≡ false = grind (arith, nat_tests) in
    rw (rest, test, front_short c.args.exact c.args.part.now (drop c.args.at c.args.wire.now) short) refl
