use Rattle.std.proofs.Common.{◌∙◌, ◌-◌, ◌≡◌, ◌+◌, arith}
use Rattle.dns_message.proofs.PlainLemmas.{names_more}
use Rattle.dns_message.proofs.held_rdata.has_names.Goals as goal

pub loop-preserved : goal.loop-preserved
loop-preserved c =
    let one : c.args.shape.names - c.loop.counter ≡ c.args.shape.names - (c.loop.counter + 1) + 1 = omega (arith, c.loop-test.true) in
    record { within = c.in-Some.ensures.1; read = c.loop.invariant.read ∙ names_more _ _ _ _ one c.in-Some.ensures.0 }
