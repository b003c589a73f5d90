-- What the loops over the table and the words keep.
use Rattle.std.proofs.Common.{◌≡◌, ◌∙◌, ◌+◌, ◌<◌, ℕ, zero, suc, ap, subst, refl, arith, List, [], ◌∷◌, ◌++◌, map, take, length, slice_index_or, IsUtf8, Bor}
use Rattle.clap.specs.Simple.{with_rule}
use Rattle.tool_line.specs.Words.{Text}
use Rattle.tool_line.specs.Parser.{AreUtf8, app_with, option_of, option_rule, table_of}
use Rattle.tool_line.specs.declared.words.Choice.{Choice}

rules_more : (os : List Choice) (i : ℕ) (d : Choice) → i < length os
    → map option_rule (table_of (take i os)) ++ option_rule (option_of (slice_index_or os i d)) ∷ [] ≡ map option_rule (table_of (take (suc i) os))
rules_more [] i d lt = absurd (omega arith)
rules_more (o ∷ os) zero d lt = refl
rules_more (o ∷ os) (suc i) d lt = ap (λ rs. option_rule (option_of o) ∷ rs) (rules_more os i d (omega arith))

pub app_more : (os : List Choice) (i : ℕ) (d : Choice) → i < length os
    → with_rule (app_with (map option_rule (table_of (take i os)))) (option_rule (option_of (slice_index_or os i d))) ≡ app_with (map option_rule (table_of (take (i + 1) os)))
app_more os i d lt =
    let next : suc i ≡ i + 1 = omega arith in
    ap app_with (rules_more os i d lt) ∙ ap (λ n. app_with (map option_rule (table_of (take n os)))) next

utf8_next : (ws : List (Bor Text)) (i : ℕ) (d : Bor Text) → i < length ws → AreUtf8 (map (λ w. w.now) (take i ws)) → IsUtf8 (slice_index_or ws i d).now
    → AreUtf8 (map (λ w. w.now) (take (suc i) ws))
utf8_next [] i d lt us u = absurd (omega arith)
utf8_next (w ∷ ws) zero d lt us u = (u, tt)
utf8_next (w ∷ ws) (suc i) d lt us u = (us.0, utf8_next ws i d (omega arith) us.1 u)

pub utf8_more : (ws : List (Bor Text)) (i : ℕ) (d : Bor Text) → i < length ws → AreUtf8 (map (λ w. w.now) (take i ws)) → IsUtf8 (slice_index_or ws i d).now
    → AreUtf8 (map (λ w. w.now) (take (i + 1) ws))
utf8_more ws i d lt us u =
    let next : suc i ≡ i + 1 = omega arith in
    subst (λ n. AreUtf8 (map (λ w. w.now) (take n ws))) next (utf8_next ws i d lt us u)
