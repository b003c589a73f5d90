use Rattle.std.proofs.Common.{◌∙◌, ◌++◌, ◌-◌, ap, drop, length, map, sym, take}
use Rattle.tool_help.proofs.HelpLemmas.{about_some}
use Rattle.tool_help.specs.Help.{line_for}
use Rattle.tool_help.proofs.helping.line_about.Goals as goal

pub returns : goal.returns
returns c =
    c.in_ok-put_line_for.ensures
    ∙ ap (λ l. l ++ line_for c.args.tool (map (λ word. word.now) (take (length c.args.words.now - c.args.count) (drop c.args.count c.args.words.now)))) c.new-text.ensures.bytes
    ∙ about_some (λ word. word.now) c.args.tool c.args.words.now c.args.count (sym c.is_empty.ensures ∙ c.if-is_empty.false)
