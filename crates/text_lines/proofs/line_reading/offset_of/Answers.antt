use Rattle.std.proofs.Common.{eqb, rules, tests}
use Rattle.std.proofs.lemmas.Iterator.{YieldsList-from_slice}
use Rattle.std.proofs.lemmas.Iterator.Search.{position_from_yields_List}
use Rattle.std.proofs.lemmas.List.Sums.{prefix_len-le-length}
use Rattle.text_lines.proofs.LineLemmas.{found_at, none_found}
use Rattle.text_lines.proofs.line_reading.offset_of.Goals as goal

pub returns-in-Some-clause-value : goal.returns-in-Some-clause-value
returns-in-Some-clause-value c =
    let found = position_from_yields_List (λ b. eqb b c.args.byte) _ _ c.position.result c.position.ensures.ran (YieldsList-from_slice c.args.text.now cc) (λ x b q k. search (rules, tests)) in
    found_at _ _ c.position.result c.in-Some.offset found c.in-Some.is

pub returns-in-None-clause-value : goal.returns-in-None-clause-value
returns-in-None-clause-value c =
    let found = position_from_yields_List (λ b. eqb b c.args.byte) _ _ c.position.result c.position.ensures.ran (YieldsList-from_slice c.args.text.now cc) (λ x b q k. search (rules, tests)) in
    none_found _ _ c.position.result (prefix_len-le-length _ c.args.text.now) found c.in-None.is
