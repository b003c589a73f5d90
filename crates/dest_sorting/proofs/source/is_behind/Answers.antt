use Rattle.std.proofs.Common.{◌≡◌, true, sym, ◌∙◌, rules, tests}
use Rattle.dest_sorting.specs.Order.{same}
use Rattle.dest_sorting.proofs.SourceLemmas.{itself_not_before}
use Rattle.dest_sorting.proofs.source.is_behind.Goals.{then-ne, else-ne}
use Rattle.dest_sorting.proofs.source.is_behind.Goals as goal

pub returns-else-same_family : goal.returns-else-same_family
returns-else-same_family c = elim c.if-ne.branch [
  | then-ne w ↦ search (rules, tests)
  | else-ne w ↦
      let is : same c.args.other c.args.source ≡ true = search (rules, tests) in
      w.value-is ∙ w.if-ne.false ∙ sym (itself_not_before c.args.dest c.args.source c.args.other is)
]
