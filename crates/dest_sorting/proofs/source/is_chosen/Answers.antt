use Rattle.std.proofs.Common.{◌&&◌, rules, tests}
use Rattle.std.proofs.lemmas.Iterator.{YieldsList-from_slice}
use Rattle.std.proofs.lemmas.Iterator.Search.{any_from_yields_List}
use Rattle.dest_sorting.specs.Order.{same_family, source_before}
use Rattle.dest_sorting.proofs.source.is_chosen.Goals as goal

pub returns-then-same_family : goal.returns-then-same_family
returns-then-same_family c =
    let some = any_from_yields_List (λ t. same_family c.args.dest t && source_before c.args.dest t c.args.source) _ _ c.any.result c.any.ensures.ran (YieldsList-from_slice c.args.sources.now cc) (λ x b q k. search (rules, tests)) in
    search (rules, tests)
