use Rattle.std.proofs.Common.{rules, tests, eqb}
use Rattle.std.proofs.lemmas.Iterator.{items_from_drains}
use Rattle.std.proofs.lemmas.Iterator.Splits.{YieldsList-from_slice_split}
use Rattle.tool_line.proofs.values.parts_of.Goals as goal

pub returns-clause-value : goal.returns-clause-value
returns-clause-value c =
    rw c.in_ok-parts.ensures.ran.2.0
    (items_from_drains c.in_ok-parts.ensures.ran.0 c.in_ok-parts.ensures.ran.1
    (YieldsList-from_slice_split _ (λ byte. eqb byte 44) c.args.word.now c.split.ensures.rest c.split.ensures.done c.split.ensures.closure (λ x r q k. search (rules, tests))))
