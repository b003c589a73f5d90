use Rattle.std.proofs.Common.{ℕ, ◌≡◌, nat_eq}
use Rattle.std.specs.HashMap.{get}
use Rattle.std.specs.Option.{option_map, option_or}
use Rattle.ahost_tool.specs.Page.{answer_for}
use Rattle.ahost_tool.proofs.page.told.gather_answers.Given as goal

-- the first answer of each request is kept, or it is the first among the rest
abbrev pub invariant-loop-answer : goal.invariant-loop-answer
invariant-loop-answer l =
    (number : ℕ) → option_or (option_map (λ answer. answer.now) (get nat_eq l.answers number)) (answer_for number l.rest) ≡ answer_for number l.calls
