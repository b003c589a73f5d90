use Rattle.std.proofs.Common.{refl, sym, ◌∙◌}
use Rattle.edns_opt.proofs.OptLemmas.{second_found}
use Rattle.edns_opt.proofs.reading.only_opt.Goals as goal

pub returns-then-is_some-clause-cause : goal.returns-then-is_some-clause-cause
returns-then-is_some-clause-cause c =
    (refl, second_found c.args.records.now c.loop-item.item-index c.item-item.result c.loop-item.found c.loop-item-test.true c.item-item.is c.if-item-eq-KIND_OPT.true (sym c.is_some.ensures ∙ c.if-is_some.true) c.loop-item.invariant)
