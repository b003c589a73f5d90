use Rattle.std.proofs.Common.{◌≡◌, ◌∷◌, [], rules}
use Rattle.ahost_tool.proofs.SummaryLemmas.{counts_all, counts_more, counts_none}
use Rattle.ahost_tool.proofs.summary.count_answers.Goals as goal

pub loop-answer-init : goal.loop-answer-init
loop-answer-init c =
    let all : c.into_iter-answer-iterator.result ≡ c.args.calls.now = search rules in
    counts_none _ _ all

pub loop-answer-preserved : goal.loop-answer-preserved
loop-answer-preserved c =
    let step : c.loop-answer.answer-iterator ≡ c.in-Some.answer.now ∷ c.next.new.self = search rules in
    counts_more _ _ _ _ _ _ step c.in_ok-counts.ensures c.loop-answer.invariant

pub returns : goal.returns
returns c =
    let none : c.loop-answer.answer-iterator ≡ [] = search rules in
    counts_all _ _ _ none c.loop-answer.invariant
