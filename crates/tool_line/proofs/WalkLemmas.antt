-- clap's walk over the words is the reading of them.
use Rattle.std.proofs.Common.{◌≡◌, ◌≢◌, ◌∙◌, ◌&&◌, ℕ, Bool, cond, true, false, refl, sym, ap, subst, List, [], ◌∷◌, ◌++◌, map, length, Option, Some, None, eqb-true, ap₂, unwrap_or, nat_eq, if◌then◌else◌}
use Rattle.std.proofs.Common.{option_map, find, slice_get, fold, chars, IsUtf8, encode_utf8_all, drop}
use Rattle.std.specs.Option.{option_map_or}
use Rattle.std.specs.Str.{bytes_eq}
use Rattle.std.specs.Char.{encode_utf8}
use Rattle.std.proofs.lemmas.Slice.Eq.{bytes_eq-Decides}
use Rattle.std.proofs.lemmas.Str.{chars_past_char, encodes-chars}
use Rattle.clap.specs.Lexer.{long_of, short_of}
use Rattle.clap.specs.Kinds.{Kinds, or_else}
use Rattle.clap.specs.Faults.{settle_fault, turn_fault, use_fault, walk_fault, flags_fault}
use Rattle.clap.specs.Walk.{Held, Row, Rule, Waiting, Walk, arg_by_id, arg_by_index, arg_by_long, arg_by_short, idle, option, positional, settled, settled_rows, subcommand_met, used_by_id, walked}
use Rattle.clap.specs.Simple.{Shape, built, filled, filled_from, with_index}
use Rattle.clap.specs.declared.error.kind.ErrorKind.TheVariants as kind
use Rattle.tool_line.specs.Parser.{option_rule, word_rule, shape, app, AreUtf8}
use Rattle.tool_line.specs.Words.{Text, Table, takes_value, Form, plain, closing, long, short, form_of, long_form, Place, free, wants, ended, Use, named, met_free, met_wants, then_uses, uses, is_empty, has_names}

-- ---- the command

-- what building makes of it
abbrev pub built_option : Text × Bool → Rule
built_option o = filled (option_rule o)

abbrev pub built_word : Rule
built_word = with_index 1 (filled word_rule)

abbrev pub rules_in : Table → List Rule
rules_in [] = built_word ∷ []
rules_in (o ∷ t) = built_option o ∷ rules_in t

abbrev pub built_shape : Table → Shape
built_shape t = record (shape t) { rules = rules_in t; is_built = true; disable_help_subcommand = true }

pub filled_rules : (t : Table) → filled_from 1 (map option_rule t ++ word_rule ∷ []) ≡ rules_in t
filled_rules [] = refl
filled_rules (o ∷ t) = ap (λ rs. built_option o ∷ rs) (filled_rules t)

pub is_built : (t : Table) → built (app t) ≡ record { top = built_shape t; subs = [] }
is_built t = ap (λ rs. record { top = record (built_shape t) { rules = rs }; subs = [] }) (filled_rules t)

-- ---- looking an argument up

pub same_text : (x y : Text) → bytes_eq x y ≡ true → x ≡ y
same_text x y e = (bytes_eq-Decides x y).0 e

pub eq_itself : (x : Text) → bytes_eq x x ≡ true
eq_itself x = (bytes_eq-Decides x x).1 refl

pub by_long : (t : Table) (name : Text) → arg_by_long (rules_in t) name ≡ option_map (λ v. built_option (name, v)) (takes_value t name)
by_long [] name = refl
by_long (o ∷ t) name = go (bytes_eq o.0 name) refl (by_long t name)
  where
    go : (b : Bool) → bytes_eq o.0 name ≡ b → arg_by_long (rules_in t) name ≡ option_map (λ v. built_option (name, v)) (takes_value t name)
        → arg_by_long (rules_in (o ∷ t)) name ≡ option_map (λ v. built_option (name, v)) (takes_value (o ∷ t) name)
    go true e h = rw e (ap (λ n. Some (built_option (n, o.1))) (same_text o.0 name e))
    go false e h = rw e h

pub by_id : (t : Table) (name : Text) (v : Bool) → takes_value t name ≡ Some v → arg_by_id (rules_in t) name ≡ Some (built_option (name, v))
by_id [] name v found = cc
by_id (o ∷ t) name v found = go (bytes_eq o.0 name) refl (by_id t name v) found
  where
    go : (b : Bool) → bytes_eq o.0 name ≡ b → (takes_value t name ≡ Some v → arg_by_id (rules_in t) name ≡ Some (built_option (name, v)))
        → option_map (λ (q : Text × Bool). q.1) (cond b (Some o) (find (λ q. bytes_eq q.0 name) t)) ≡ Some v
        → cond b (Some (built_option o)) (arg_by_id (rules_in t) name) ≡ Some (built_option (name, v))
    go true e h is = ap₂ (λ n w. Some (built_option (n, w))) (same_text o.0 name e) (ap (λ x. unwrap_or x o.1) is)
    go false e h is = h is

pub by_no_short : (t : Table) (x : ℕ) → arg_by_short (rules_in t) x ≡ None
by_no_short [] x = refl
by_no_short (o ∷ t) x = by_no_short t x

pub by_index : (t : Table) → arg_by_index (rules_in t) 1 ≡ Some built_word
by_index [] = refl
by_index (o ∷ t) = by_index t

pub by_no_name : (t : Table) → has_names t ≡ true → arg_by_id (rules_in t) [] ≡ Some built_word
by_no_name [] h = refl
by_no_name (([], v) ∷ t) h = cc
by_no_name ((x ∷ xs, v) ∷ t) h = by_no_name t h

-- ---- what a word looks like

abbrev dashes : Text
dashes = 45 ∷ 45 ∷ []

abbrev IsForm : Text → Form → Type 0
IsForm w plain = (bytes_eq w dashes ≡ false) × (long_of w ≡ None) × (short_of w ≡ None)
IsForm w closing = bytes_eq w dashes ≡ true
IsForm w (long name value) = (bytes_eq w dashes ≡ false) × (long_of w ≡ Some (name, value))
IsForm w short = (bytes_eq w dashes ≡ false) × (long_of w ≡ None) × (f : Text) × (short_of w ≡ Some f) × (w ≡ 45 ∷ f) × (is_empty f ≡ false)

after_dashes : (x y : ℕ) (rest : Text) → nat_eq x 45 ≡ true → nat_eq y 45 ≡ true → IsForm (x ∷ y ∷ rest) (long_form rest)
after_dashes x y [] ex ey = rw (ex, ey) refl
after_dashes x y (z ∷ zs) ex ey = (rw (ex, ey) refl, rw (ex, ey) refl)

forms : (w : Text) → IsForm w (form_of w)
forms [] = (refl, refl, refl)
forms (x ∷ []) = go (nat_eq x 45) refl
  where
    go : (b : Bool) → nat_eq x 45 ≡ b → IsForm (x ∷ []) plain
    go true e = (rw e refl, rw e refl, rw e refl)
    go false e = (rw e refl, rw e refl, rw e refl)
forms (x ∷ y ∷ rest) = go (nat_eq x 45) refl (nat_eq y 45) refl
  where
    go : (a : Bool) → nat_eq x 45 ≡ a → (b : Bool) → nat_eq y 45 ≡ b
        → IsForm (x ∷ y ∷ rest) (if a then (if b then long_form rest else short) else plain)
    go false ex b ey = (rw ex refl, rw ex refl, rw ex refl)
    go true ex true ey = after_dashes x y rest ex ey
    go true ex false ey = (rw (ex, ey) refl, rw (ex, ey) refl, (y ∷ rest), rw (ex, ey) refl, ap (λ n. n ∷ y ∷ rest) (eqb-true x 45 ex), refl)

-- ---- uses in their order

abbrev pub use_fails : Table → Use → List Row → Kinds
use_fails t u rows = option_map_or (λ a. use_fault false a u.1 rows) (arg_by_id (rules_in t) u.0) []

abbrev pub after_use : Table → Use → List Row → List Row
after_use t u rows = used_by_id (arg_by_id (rules_in t) u.0) u.1 rows

abbrev pub uses_fail : Table → List Use → List Row → Kinds
uses_fail t [] rows = []
uses_fail t (u ∷ us) rows = or_else (use_fails t u rows) (uses_fail t us (after_use t u rows))

abbrev pub after_uses : Table → List Use → List Row → List Row
after_uses t [] rows = rows
after_uses t (u ∷ us) rows = after_uses t us (after_use t u rows)

abbrev held_use : Option Use → List Use
held_use None = []
held_use (Some u) = u ∷ []

abbrev settles : Table → Option Use → List Row → Kinds
settles t p rows = option_map_or (λ u. use_fails t u rows) p []

abbrev at : List Row → Option Use → Waiting → Bool → Walk
at rows p wait trailing = record { held = record { rows = rows; pending = p; skip = 0 }; waiting = wait; position = 1; is_trailing = trailing; stopped = None }

abbrev pub end_fault : Table → List Text → Walk → Kinds
end_fault t ws w = or_else (walk_fault (built_shape t) [] w ws) (settle_fault (rules_in t) false (fold (walked (rules_in t) []) w ws).held)

abbrev pub end_rows : Table → List Text → Walk → List Row
end_rows t ws w = (settled (rules_in t) (fold (walked (rules_in t) []) w ws).held).rows

-- the reading and clap's walk come to the same
abbrev pub Agrees : Table → Option (List Use) → Kinds → List Row → List Use → List Row → Type 0
Agrees t None k r before rows = k ≢ []
Agrees t (Some us) k r before rows = (k ≡ uses_fail t (before ++ us) rows) × (r ≡ after_uses t (before ++ us) rows)

pub or_else_none : (k : Kinds) → or_else k [] ≡ k
or_else_none [] = refl
or_else_none (x ∷ xs) = refl

pub or_else_three : (a b d : Kinds) → or_else (or_else a b) d ≡ or_else a (or_else b d)
or_else_three [] b d = refl
or_else_three (x ∷ xs) b d = refl

pub fails_first : (a b : Kinds) → a ≢ [] → or_else a b ≢ []
fails_first [] b bad e = bad refl
fails_first (x ∷ xs) b bad e = bad e

fails_then : (a b : Kinds) → b ≢ [] → or_else a b ≢ []
fails_then [] b bad e = bad e
fails_then (x ∷ xs) b bad e = cc

and_false : (b : Bool) → (b && false) ≡ false
and_false true = refl
and_false false = refl

end_step : (t : Table) (w : Text) (ws : List Text) (before after : Walk) (f : Kinds) → turn_fault (built_shape t) [] before w ≡ f
    → walked (rules_in t) [] before w ≡ after → end_fault t (w ∷ ws) before ≡ or_else f (end_fault t ws after)
unfolding walk_fault
end_step t w ws before after f fault step =
    or_else_three (turn_fault (built_shape t) [] before w) (walk_fault (built_shape t) [] (walked (rules_in t) [] before w) ws) _
    ∙ ap₂ (λ a b. or_else a (end_fault t ws b)) fault step

rows_step : (t : Table) (w : Text) (ws : List Text) (before after : Walk) → walked (rules_in t) [] before w ≡ after → end_rows t (w ∷ ws) before ≡ end_rows t ws after
rows_step t w ws before after step = ap (end_rows t ws) step

-- a step that the reading takes too
carry : (t : Table) (o : Option (List Use)) (us₁ before after : List Use) (rows rows₁ : List Row) (f k : Kinds) (rs : List Row)
    → Agrees t o k rs after rows₁
    → ((us : List Use) → or_else f (uses_fail t (after ++ us) rows₁) ≡ uses_fail t (before ++ (us₁ ++ us)) rows)
    → ((us : List Use) → after_uses t (after ++ us) rows₁ ≡ after_uses t (before ++ (us₁ ++ us)) rows)
    → Agrees t (option_map (λ us. us₁ ++ us) o) (or_else f k) rs before rows
carry t None us₁ before after rows rows₁ f k rs h fails ends = fails_then f k h
carry t (Some us) us₁ before after rows rows₁ f k rs h fails ends = (ap (or_else f) h.0 ∙ fails us, h.1 ∙ ends us)

-- ---- single words

abbrev IsFree : Waiting → Type 0
IsFree (option id) = ⊥
IsFree _ = Unit {0}

turn_plain : (t : Table) (rows : List Row) (p : Option Use) (wait : Waiting) (w : Text) → IsFree wait → IsForm w plain
    → turn_fault (built_shape t) [] (at rows p wait false) w ≡ settles t p rows
turn_plain t rows p idle w f h = rw (h.0, h.1, h.2, by_index t, and_false) refl
turn_plain t rows p positional w f h = rw (h.0, h.1, h.2, by_index t, and_false) refl
turn_plain t rows p (option id) w f h = absurd f

walk_plain : (t : Table) (rows : List Row) (p : Option Use) (wait : Waiting) (w : Text) → IsFree wait → IsForm w plain
    → walked (rules_in t) [] (at rows p wait false) w ≡ at (settled_rows (rules_in t) p rows) (Some ([], w ∷ [])) positional false
unfolding walked
walk_plain t rows p idle w f h = rw (h.0, h.1, h.2, by_index t, and_false) refl
walk_plain t rows p positional w f h = rw (h.0, h.1, h.2, by_index t, and_false) refl
walk_plain t rows p (option id) w f h = absurd f

walk_ended : (t : Table) (rows : List Row) (p : Option Use) (wait : Waiting) (w : Text)
    → walked (rules_in t) [] (at rows p wait true) w ≡ at (settled_rows (rules_in t) p rows) (Some ([], w ∷ [])) positional true
unfolding walked
walk_ended t rows p wait w = rw (by_index t, and_false) refl

turn_ended : (t : Table) (rows : List Row) (p : Option Use) (wait : Waiting) (w : Text)
    → turn_fault (built_shape t) [] (at rows p wait true) w ≡ settles t p rows
turn_ended t rows p wait w = rw (by_index t, and_false) refl

no_subcommand : (wait : Waiting) (w : Text) → subcommand_met [] wait w ≡ None
no_subcommand idle w = refl
no_subcommand positional w = refl
no_subcommand (option id) w = refl

turn_closing : (t : Table) (rows : List Row) (p : Option Use) (wait : Waiting) (w : Text) → IsForm w closing
    → turn_fault (built_shape t) [] (at rows p wait false) w ≡ []
turn_closing t rows p wait w h = rw (no_subcommand wait w, h) refl

walk_closing : (t : Table) (rows : List Row) (p : Option Use) (wait : Waiting) (w : Text) → IsForm w closing
    → walked (rules_in t) [] (at rows p wait false) w ≡ at rows p wait true
unfolding walked
walk_closing t rows p wait w h = rw (no_subcommand wait w, h) refl

turn_value : (t : Table) (rows : List Row) (name w : Text) → takes_value t name ≡ Some true → IsForm w plain
    → turn_fault (built_shape t) [] (at rows (Some (name, [])) (option name) false) w ≡ []
turn_value t rows name w is h = rw (h.0, h.1, h.2) refl

walk_value : (t : Table) (rows : List Row) (name w : Text) → takes_value t name ≡ Some true → IsForm w plain
    → walked (rules_in t) [] (at rows (Some (name, [])) (option name) false) w ≡ at rows (Some (name, w ∷ [])) idle false
unfolding walked
walk_value t rows name w is h = rw (h.0, h.1, h.2, by_id t name true is, eq_itself name) refl

-- a word `--name` or `--name=value`, by what the table says of the name
turn_unknown : (t : Table) (rows : List Row) (p : Option Use) (wait : Waiting) (w name : Text) (v : Option Text) → IsForm w (long name v)
    → takes_value t name ≡ None → turn_fault (built_shape t) [] (at rows p wait false) w ≢ []
turn_unknown t rows p wait w name v h is e =
    let fails : turn_fault (built_shape t) [] (at rows p wait false) w ≡ kind.UnknownArgument ∷ [] = rw (no_subcommand wait w, h.0, h.1, by_long t name, is) refl in
    cc

turn_flag_value : (t : Table) (rows : List Row) (p : Option Use) (wait : Waiting) (w name v : Text) → IsForm w (long name (Some v))
    → takes_value t name ≡ Some false → turn_fault (built_shape t) [] (at rows p wait false) w ≢ []
turn_flag_value t rows p wait w name v h is e =
    let fails : turn_fault (built_shape t) [] (at rows p wait false) w ≡ kind.TooManyValues ∷ [] = rw (no_subcommand wait w, h.0, h.1, by_long t name, is) refl in
    cc

turn_flag : (t : Table) (rows : List Row) (p : Option Use) (wait : Waiting) (w name : Text) → IsForm w (long name None)
    → takes_value t name ≡ Some false
    → turn_fault (built_shape t) [] (at rows p wait false) w ≡ or_else (settles t p rows) (use_fails t (name, []) (settled_rows (rules_in t) p rows))
turn_flag t rows p wait w name h is = rw (no_subcommand wait w, h.0, h.1, by_long t name, by_id t name false is, is) (or_else_none _)

walk_flag : (t : Table) (rows : List Row) (p : Option Use) (wait : Waiting) (w name : Text) → IsForm w (long name None)
    → takes_value t name ≡ Some false
    → walked (rules_in t) [] (at rows p wait false) w ≡ at (after_use t (name, []) (settled_rows (rules_in t) p rows)) None idle false
unfolding walked
walk_flag t rows p wait w name h is = rw (no_subcommand wait w, h.0, h.1, by_long t name, by_id t name false is, is) refl

turn_joined : (t : Table) (rows : List Row) (p : Option Use) (wait : Waiting) (w name v : Text) → IsForm w (long name (Some v))
    → takes_value t name ≡ Some true
    → turn_fault (built_shape t) [] (at rows p wait false) w ≡ or_else (settles t p rows) (use_fails t (name, v ∷ []) (settled_rows (rules_in t) p rows))
turn_joined t rows p wait w name v h is = rw (no_subcommand wait w, h.0, h.1, by_long t name, by_id t name true is, is) (or_else_none _)

walk_joined : (t : Table) (rows : List Row) (p : Option Use) (wait : Waiting) (w name v : Text) → IsForm w (long name (Some v))
    → takes_value t name ≡ Some true
    → walked (rules_in t) [] (at rows p wait false) w ≡ at (after_use t (name, v ∷ []) (settled_rows (rules_in t) p rows)) None idle false
unfolding walked
walk_joined t rows p wait w name v h is = rw (no_subcommand wait w, h.0, h.1, by_long t name, by_id t name true is, is) refl

turn_option : (t : Table) (rows : List Row) (p : Option Use) (wait : Waiting) (w name : Text) → IsForm w (long name None)
    → takes_value t name ≡ Some true
    → turn_fault (built_shape t) [] (at rows p wait false) w ≡ settles t p rows
turn_option t rows p wait w name h is = rw (no_subcommand wait w, h.0, h.1, by_long t name, is) (or_else_none _)

walk_option : (t : Table) (rows : List Row) (p : Option Use) (wait : Waiting) (w name : Text) → IsForm w (long name None)
    → takes_value t name ≡ Some true
    → walked (rules_in t) [] (at rows p wait false) w ≡ at (settled_rows (rules_in t) p rows) (Some (name, [])) (option name) false
unfolding walked
walk_option t rows p wait w name h is = rw (no_subcommand wait w, h.0, h.1, by_long t name, is) refl

-- another word that begins with `-`
has_char : (f : Text) → IsUtf8 (45 ∷ f) → is_empty f ≡ false → (x : ℕ) × (slice_get (chars f) 0 ≡ Some x)
unfolding encode_utf8
has_char f u more = go (chars f) refl
  where
    go : (cs : Text) → chars f ≡ cs → (x : ℕ) × (slice_get (chars f) 0 ≡ Some x)
    go [] e =
        let whole : chars (45 ∷ f) ≡ 45 ∷ [] = chars_past_char (45 ∷ f) f 45 u refl ∙ ap (λ cs. 45 ∷ cs) e in
        let one : encode_utf8_all (45 ∷ []) ≡ 45 ∷ f = ap encode_utf8_all (sym whole) ∙ encodes-chars (45 ∷ f) u in
        let none : is_empty f ≡ true = sym (ap (λ cs. is_empty (drop 1 cs)) one) in
        cc
    go (x ∷ xs) e = (x, rw e refl)

flags_fail : (t : Table) (f : Text) (x : ℕ) (h : Held) → is_empty f ≡ false → slice_get (chars f) 0 ≡ Some x
    → flags_fault (rules_in t) false (length f) f 0 h ≡ kind.UnknownArgument ∷ []
unfolding flags_fault
flags_fail t [] x h more is = cc
flags_fail t (y ∷ ys) x h more is = rw (is, by_no_short t x) refl

turn_short : (t : Table) (rows : List Row) (p : Option Use) (wait : Waiting) (w : Text) → IsUtf8 w → IsForm w short
    → turn_fault (built_shape t) [] (at rows p wait false) w ≢ []
turn_short t rows p wait w u h e =
    let first = has_char h.2 (subst IsUtf8 h.4 u) h.5 in
    let is = flags_fail t h.2 first.0 (record { rows = rows; pending = p; skip = 0 }) h.5 first.1 in
    let fails : turn_fault (built_shape t) [] (at rows p wait false) w ≡ kind.UnknownArgument ∷ []
    = rw (no_subcommand wait w, h.0, h.1, h.3, is) refl in
    cc

-- ---- the walk

abbrev at_place : Place → List Row → Option Use → Waiting → Walk
at_place free rows p wait = at rows p wait false
at_place (wants name) rows p wait = at rows (Some (name, [])) (option name) false
at_place ended rows p wait = at rows p wait true

abbrev Fits : Table → Place → Waiting → Type 0
Fits t free wait = IsFree wait
Fits t (wants name) wait = takes_value t name ≡ Some true
Fits t ended wait = Unit {0}

abbrev before : Place → Option Use → List Use
before free p = held_use p
before (wants name) p = []
before ended p = held_use p

-- an option without its value
lacks : (t : Table) (name : Text) (rows : List Row) → takes_value t name ≡ Some true → settles t (Some (name, [])) rows ≢ []
lacks t name rows is e =
    let fails : settles t (Some (name, [])) rows ≡ kind.InvalidValue ∷ [] = rw (by_id t name true is) refl in
    cc

lost : (t : Table) (name : Text) (rows : List Row) (wait : Waiting) (ws : List Text) → takes_value t name ≡ Some true
    → end_fault t ws (at rows (Some (name, [])) wait true) ≢ []
unfolding walk_fault
lost t name rows wait [] is = lacks t name rows is
lost t name rows wait (w ∷ ws) is =
    fails_first _ _ (fails_first _ _ (subst (λ k. k ≢ []) (sym (turn_ended t rows (Some (name, [])) wait w)) (lacks t name rows is)))

held_end : (t : Table) (p : Option Use) (rows : List Row) → (settles t p rows ≡ uses_fail t (held_use p ++ []) rows) × (settled_rows (rules_in t) p rows ≡ after_uses t (held_use p ++ []) rows)
held_end t None rows = (refl, refl)
held_end t (Some u) rows = (sym (or_else_none _), refl)

held_then : (t : Table) (p : Option Use) (us : List Use) (rows : List Row)
    → (or_else (settles t p rows) (uses_fail t us (settled_rows (rules_in t) p rows)) ≡ uses_fail t (held_use p ++ us) rows)
    × (after_uses t us (settled_rows (rules_in t) p rows) ≡ after_uses t (held_use p ++ us) rows)
held_then t None us rows = (refl, refl)
held_then t (Some u) us rows = (refl, refl)

-- the reading takes the word, and clap's walk too
taken : (t : Table) (w : Text) (ws : List Text) (o : Option (List Use)) (us₁ before after : List Use) (rows rows₁ : List Row) (at₀ at₁ : Walk) (f : Kinds)
    → turn_fault (built_shape t) [] at₀ w ≡ f → walked (rules_in t) [] at₀ w ≡ at₁
    → Agrees t o (end_fault t ws at₁) (end_rows t ws at₁) after rows₁
    → ((us : List Use) → or_else f (uses_fail t (after ++ us) rows₁) ≡ uses_fail t (before ++ (us₁ ++ us)) rows)
    → ((us : List Use) → after_uses t (after ++ us) rows₁ ≡ after_uses t (before ++ (us₁ ++ us)) rows)
    → Agrees t (option_map (λ us. us₁ ++ us) o) (end_fault t (w ∷ ws) at₀) (end_rows t (w ∷ ws) at₀) before rows
taken t w ws o us₁ before after rows rows₁ at₀ at₁ f fault step h fails ends =
    rw (end_step t w ws at₀ at₁ f fault step, rows_step t w ws at₀ at₁ step)
    (carry t o us₁ before after rows rows₁ f (end_fault t ws at₁) (end_rows t ws at₁) h fails ends)

-- both refuse the word
refuses : (t : Table) (w : Text) (ws : List Text) (at₀ : Walk) → turn_fault (built_shape t) [] at₀ w ≢ [] → end_fault t (w ∷ ws) at₀ ≢ []
unfolding walk_fault
refuses t w ws at₀ h = fails_first _ _ (fails_first _ _ h)

abbrev Told : Table → List Text → Place → Type 0
Told t ws place = (rows : List Row) (p : Option Use) (wait : Waiting) → Fits t place wait
    → Agrees t (uses t ws place) (end_fault t ws (at_place place rows p wait)) (end_rows t ws (at_place place rows p wait)) (before place p) rows

told_named : (t : Table) (w : Text) (ws : List Text) (name : Text) (v : Option Text) (b : Option Bool) → takes_value t name ≡ b → IsForm w (long name v)
    → ((place : Place) → Told t ws place) → (rows : List Row) (p : Option Use) (wait : Waiting) → IsFree wait
    → Agrees t (then_uses (named b name v) (uses t ws)) (end_fault t (w ∷ ws) (at rows p wait false)) (end_rows t (w ∷ ws) (at rows p wait false)) (held_use p) rows
told_named t w ws name v None is h next rows p wait f = refuses t w ws _ (turn_unknown t rows p wait w name v h is)
told_named t w ws name None (Some true) is h next rows p wait f =
    taken t w ws (uses t ws (wants name)) [] (held_use p) [] rows _ _ _ _ (turn_option t rows p wait w name h is) (walk_option t rows p wait w name h is)
    (next (wants name) _ None idle is) (λ us. (held_then t p us rows).0) (λ us. (held_then t p us rows).1)
told_named t w ws name (Some v) (Some true) is h next rows p wait f =
    taken t w ws (uses t ws free) ((name, v ∷ []) ∷ []) (held_use p) [] rows _ _ _ _ (turn_joined t rows p wait w name v h is) (walk_joined t rows p wait w name v h is)
    (next free _ None idle tt) (λ us. or_else_three (settles t p rows) (use_fails t (name, v ∷ []) (settled_rows (rules_in t) p rows)) (uses_fail t us (after_use t (name, v ∷ []) (settled_rows (rules_in t) p rows))) ∙ (held_then t p ((name, v ∷ []) ∷ us) rows).0) (λ us. (held_then t p ((name, v ∷ []) ∷ us) rows).1)
told_named t w ws name None (Some false) is h next rows p wait f =
    taken t w ws (uses t ws free) ((name, []) ∷ []) (held_use p) [] rows _ _ _ _ (turn_flag t rows p wait w name h is) (walk_flag t rows p wait w name h is)
    (next free _ None idle tt) (λ us. or_else_three (settles t p rows) (use_fails t (name, []) (settled_rows (rules_in t) p rows)) (uses_fail t us (after_use t (name, []) (settled_rows (rules_in t) p rows))) ∙ (held_then t p ((name, []) ∷ us) rows).0) (λ us. (held_then t p ((name, []) ∷ us) rows).1)
told_named t w ws name (Some v) (Some false) is h next rows p wait f = refuses t w ws _ (turn_flag_value t rows p wait w name v h is)

told_free : (t : Table) (w : Text) (ws : List Text) → IsUtf8 w → (form : Form) → IsForm w form
    → ((place : Place) → Told t ws place) → (rows : List Row) (p : Option Use) (wait : Waiting) → IsFree wait
    → Agrees t (then_uses (met_free t w form) (uses t ws)) (end_fault t (w ∷ ws) (at rows p wait false)) (end_rows t (w ∷ ws) (at rows p wait false)) (held_use p) rows
told_free t w ws u plain h next rows p wait f =
    taken t w ws (uses t ws free) (([], w ∷ []) ∷ []) (held_use p) (([], w ∷ []) ∷ []) rows _ _ _ _ (turn_plain t rows p wait w f h) (walk_plain t rows p wait w f h)
    (next free _ (Some ([], w ∷ [])) positional tt) (λ us. (held_then t p (([], w ∷ []) ∷ us) rows).0) (λ us. (held_then t p (([], w ∷ []) ∷ us) rows).1)
told_free t w ws u closing h next rows p wait f =
    taken t w ws (uses t ws ended) [] (held_use p) (held_use p) rows rows _ _ _ (turn_closing t rows p wait w h) (walk_closing t rows p wait w h)
    (next ended rows p wait tt) (λ us. refl) (λ us. refl)
told_free t w ws u (long name v) h next rows p wait f = told_named t w ws name v (takes_value t name) refl h next rows p wait f
told_free t w ws u short h next rows p wait f = refuses t w ws _ (turn_short t rows p wait w u h)

-- an option waits for its value: no other word but a plain one is taken
lacks_named : (t : Table) (w : Text) (ws : List Text) (name other : Text) (v : Option Text) (b : Option Bool) → takes_value t other ≡ b → IsForm w (long other v)
    → (rows : List Row) → takes_value t name ≡ Some true → end_fault t (w ∷ ws) (at rows (Some (name, [])) (option name) false) ≢ []
lacks_named t w ws name other v None is h rows has = refuses t w ws _ (turn_unknown t rows (Some (name, [])) (option name) w other v h is)
lacks_named t w ws name other None (Some true) is h rows has =
    refuses t w ws _ (subst (λ k. k ≢ []) (sym (turn_option t rows (Some (name, [])) (option name) w other h is)) (lacks t name rows has))
lacks_named t w ws name other (Some v) (Some true) is h rows has =
    refuses t w ws _ (subst (λ k. k ≢ []) (sym (turn_joined t rows (Some (name, [])) (option name) w other v h is)) (fails_first _ _ (lacks t name rows has)))
lacks_named t w ws name other None (Some false) is h rows has =
    refuses t w ws _ (subst (λ k. k ≢ []) (sym (turn_flag t rows (Some (name, [])) (option name) w other h is)) (fails_first _ _ (lacks t name rows has)))
lacks_named t w ws name other (Some v) (Some false) is h rows has = refuses t w ws _ (turn_flag_value t rows (Some (name, [])) (option name) w other v h is)

told_wants : (t : Table) (w : Text) (ws : List Text) (name : Text) → IsUtf8 w → (form : Form) → IsForm w form
    → ((place : Place) → Told t ws place) → (rows : List Row) → takes_value t name ≡ Some true
    → Agrees t (then_uses (met_wants name w form) (uses t ws)) (end_fault t (w ∷ ws) (at rows (Some (name, [])) (option name) false))
    (end_rows t (w ∷ ws) (at rows (Some (name, [])) (option name) false)) [] rows
told_wants t w ws name u plain h next rows has =
    taken t w ws (uses t ws free) ((name, w ∷ []) ∷ []) [] ((name, w ∷ []) ∷ []) rows rows _ _ _ (turn_value t rows name w has h) (walk_value t rows name w has h)
    (next free rows (Some (name, w ∷ [])) idle tt) (λ us. refl) (λ us. refl)
told_wants t w ws name u closing h next rows has = λ e.
    lost t name rows (option name) ws has (sym (end_step t w ws _ _ [] (turn_closing t rows (Some (name, [])) (option name) w h) (walk_closing t rows (Some (name, [])) (option name) w h)) ∙ e)
told_wants t w ws name u (long other v) h next rows has = lacks_named t w ws name other v (takes_value t other) refl h rows has
told_wants t w ws name u short h next rows has = refuses t w ws _ (turn_short t rows (Some (name, [])) (option name) w u h)

pub told : (t : Table) → (ws : List Text) → AreUtf8 ws → (place : Place) → Told t ws place
unfolding walk_fault
told t [] us free rows p wait f = held_end t p rows
told t [] us ended rows p wait f = held_end t p rows
told t [] us (wants name) rows p wait f = lacks t name rows f
told t (w ∷ ws) us free rows p wait f = told_free t w ws us.0 (form_of w) (forms w) (told t ws us.1) rows p wait f
told t (w ∷ ws) us (wants name) rows p wait f = told_wants t w ws name us.0 (form_of w) (forms w) (told t ws us.1) rows f
told t (w ∷ ws) us ended rows p wait f =
    taken t w ws (uses t ws ended) (([], w ∷ []) ∷ []) (held_use p) (([], w ∷ []) ∷ []) rows _ _ _ _ (turn_ended t rows p wait w) (walk_ended t rows p wait w)
    (told t ws us.1 ended _ (Some ([], w ∷ [])) positional tt) (λ os. (held_then t p (([], w ∷ []) ∷ os) rows).0) (λ os. (held_then t p (([], w ∷ []) ∷ os) rows).1)
