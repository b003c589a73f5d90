use Rattle.ahost_tool.proofs.SummaryLemmas.{CountsOn}
use Rattle.ahost_tool.proofs.summary.count_answers.Given as goal

-- with the answers that are left the counts come to those of all
abbrev pub invariant-loop-answer : goal.invariant-loop-answer
invariant-loop-answer l = CountsOn l.calls l.counts l.answer-iterator
