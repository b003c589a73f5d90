use Rattle.std.proofs.Common.{arith, ◌≡◌, ◌∙◌, ◌∷◌, ◌++◌, [], ap, ap₂, map, take, take_all}
use Rattle.clap.specs.Simple.{with_rule}
use Rattle.tool_line.specs.Parser.{app_with, option_rule, table_of, word_rule}
use Rattle.tool_line.proofs.LoopLemmas.{app_more}
use Rattle.tool_line.proofs.words.command.Goals as goal

pub loop-option-preserved : goal.loop-option-preserved
loop-option-preserved c = c.in_ok-command.ensures.shape c.option_arg.ensures.local
    ∙ ap₂ with_rule c.loop-option.invariant c.option_arg.ensures.rule
    ∙ app_more c.args.table.now c.loop-option.option-index _ (omega (arith, c.loop-option-test.true))

pub returns : goal.returns
returns c =
    let all : take c.loop-option.option-index c.args.table.now ≡ c.args.table.now = take_all _ _ (omega (arith, c.loop-option-test.false)) in
    c.in_ok-arg.ensures.shape c.word_arg.ensures.local
    ∙ ap₂ with_rule c.loop-option.invariant c.word_arg.ensures.rule
    ∙ ap (λ os. app_with (map option_rule (table_of os) ++ word_rule ∷ [])) all
