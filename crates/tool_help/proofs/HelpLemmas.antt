-- The line about words of which only so many stand.
use Rattle.std.proofs.Common.{◌≡◌, ◌∙◌, ◌==◌, ◌-◌, List, [], ◌∷◌, ap, arith, drop, false, length, map, sym, take, ℕ}
use Rattle.std.proofs.lemmas.List.{drop-map, length-drop, take_all}
use Rattle.tool_help.specs.Help.{line_about, line_for}
use Rattle.tool_line.specs.Words.{Text}
use Rattle.tool_line.specs.declared.ending.Tool.{Tool}

-- where there are words it is about all behind those
pub about_some : {W : Type 0} (text : W → Text) (tool : Tool) (words : List W) (count : ℕ) → (length words == 0) ≡ false →
    line_for tool (map text (take (length words - count) (drop count words))) ≡ line_about tool (map text words) count
about_some text tool [] count some = absurd (cc some)
about_some text tool (word ∷ words) count some =
    ap (λ l. line_for tool (map text l)) (take_all (length (word ∷ words) - count) (drop count (word ∷ words)) (omega (arith, length-drop count (word ∷ words))))
    ∙ ap (line_for tool) (sym (drop-map text count (word ∷ words)))
