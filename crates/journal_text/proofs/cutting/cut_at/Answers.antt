use Rattle.std.proofs.Common.{◌+◌, eqb, rules, tests}
use Rattle.std.proofs.lemmas.Iterator.{YieldsList-from_slice}
use Rattle.std.proofs.lemmas.Iterator.Search.{position_from_yields_List}
use Rattle.std.proofs.lemmas.List.{take_rest}
use Rattle.journal_text.proofs.CutLemmas.{found_in, cut_parts}
use Rattle.journal_text.proofs.cutting.cut_at.Goals as goal

pub returns-in-Some : goal.returns-in-Some
returns-in-Some c =
    let found = position_from_yields_List (λ b. eqb b c.args.byte) _ _ c.position.result c.position.ensures.ran (YieldsList-from_slice c.args.text.now cc) (λ x b q k. search (rules, tests)) in
    let is = found_in _ _ c.position.result c.in-Some.end found c.in-Some.is in
    rw (take_rest c.args.text.now (c.in-Some.end + 1)) (cut_parts c.args.byte c.args.text.now c.in-Some.end is.0 is.1)
