use Rattle.std.proofs.Common.{sym, ap, is_some, ◌∙◌, rules, tests}
use Rattle.std.proofs.lemmas.Iterator.{YieldsList-from_slice}
use Rattle.std.proofs.lemmas.Iterator.Consumers.{YieldsList-from_copied}
use Rattle.std.proofs.lemmas.Iterator.Search.{find_from_yields_List}
use Rattle.dest_sorting.specs.Order.{is_chosen}
use Rattle.std.proofs.lemmas.Iterator.Adapters.{option_map_id}
use Rattle.dest_sorting.proofs.SourceLemmas.{is_some-source_of}
use Rattle.dest_sorting.proofs.source.source_for.Goals as goal

pub returns : goal.returns
returns c =
    let value = sym (option_map_id c.find.result) ∙ find_from_yields_List (is_chosen c.args.dest c.args.sources.now) _ _ c.find.result c.find.ensures.ran (YieldsList-from_copied (YieldsList-from_slice c.args.sources.now cc)) (λ x b q k. search (rules, tests)) in
    record { value = value; found = ap is_some value ∙ is_some-source_of c.args.sources.now c.args.dest }
