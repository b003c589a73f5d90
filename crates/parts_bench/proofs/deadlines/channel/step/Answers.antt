use Rattle.std.proofs.Common.{◌+◌}
use Rattle.parts_bench.specs.Numbers.{AreBelow}
use Rattle.parts_bench.proofs.NumbersLemmas.{AreBelow-insert}
use Rattle.parts_bench.proofs.deadlines.channel.step.Goals as goal

pub returns-in-Some : goal.returns-in-Some
returns-in-Some c =
    let put : AreBelow (c.args.number + 1) c.put.new.self = rw c.in_ok-put.ensures.ok (AreBelow-insert _ _ _ c.requires) in
    c.drop_answered.ensures _ (c.drop_due.ensures _ put)

pub returns-in_default : goal.returns-in_default
returns-in_default c =
    let put : AreBelow (c.args.number + 1) c.put.new.self = rw c.in_ok-put.ensures.ok (AreBelow-insert _ _ _ c.requires) in
    c.drop_due.ensures _ put
