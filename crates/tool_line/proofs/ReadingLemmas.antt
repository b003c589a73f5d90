-- What clap's parse gives is what the words say.
use Rattle.std.proofs.Common.{◌≡◌, ◌≢◌, ◌⊎◌, ◌∙◌, ◌&&◌, ◌||◌, Bool, cond, true, false, not, inl, inr, refl, sym, ap, ap₂, subst, arith, List, [], ◌∷◌, ◌++◌, map, length, Option, Some, None, is_some, if◌then◌else◌, unwrap_or, append-nil, append_assoc}
use Rattle.std.proofs.Common.{option_map, option_and_then, find, fold, count_by}
use Rattle.std.specs.List.{list_all, list_any}
use Rattle.std.specs.Str.{bytes_eq}
use Rattle.clap.specs.Kinds.{HasKind, IsAmong, Kinds, or_else}
use Rattle.clap.specs.Words.{found_of, kind_of, rows_of}
use Rattle.clap.specs.declared.error.Error.{Error}
use Rattle.tool_line.specs.declared.words.Words.{Words}
use Rattle.clap.specs.Takes.{is_given}
use Rattle.clap.specs.Faults.{built_fault, defaults_fault, entered_fault, fault_of, is_simple_and_free, settle_fault, walk_fault}
use Rattle.clap.specs.Walk.{Row, all_of, finished, has_row, idle, is_early_multiple, nothing_held, rows_after, settled, walk, walk_from, stronger, with_default, with_values, without}
use Rattle.clap.specs.Simple.{App, entered, is_simple, matches_of, names_of}
use Rattle.clap.specs.declared.parser.matches.ValueSource.{ValueSource}
use Rattle.clap.specs.declared.builder.value_parser.Reading.{Reading}
use Rattle.clap.specs.declared.error.kind.ErrorKind.TheVariants as kind
use Rattle.tool_line.specs.Words.{Text, Table, takes_value, Form, plain, closing, long, short, form_of, Place, free, wants, ended, Use, named, met_free, met_wants, then_uses, uses, has_use, is_empty, is_fresh, is_plain, once, read, values_of, given, has_names}
use Rattle.tool_line.specs.Parser.{Tells, values_taken, option_rule, word_rule, app, AreUtf8}
use Rattle.tool_line.proofs.WalkLemmas.{Agrees, after_use, after_uses, by_id, by_no_name, built_option, built_shape, end_fault, end_rows, eq_itself, fails_first, filled_rules, is_built, or_else_none, rules_in, same_text, told, use_fails, uses_fail}

-- ---- uses that the words can be

abbrev IsGood : Table → Use → Type 0
IsGood t u = ((b : Bool) × (takes_value t u.0 ≡ Some b) × (length u.1 ≡ values_taken b)) ⊎ ((w : Text) × (u ≡ ([], w ∷ [])))

abbrev AreGood : Table → List Use → Type 0
AreGood t [] = Unit {0}
AreGood t (u ∷ us) = IsGood t u × AreGood t us

abbrev GoodIf : Table → Option (List Use) → Type 0
GoodIf t None = Unit {0}
GoodIf t (Some us) = AreGood t us

abbrev Knows : Table → Place → Type 0
Knows t (wants name) = takes_value t name ≡ Some true
Knows t _ = Unit {0}

good_more : (t : Table) (u : Use) (o : Option (List Use)) → IsGood t u → GoodIf t o → GoodIf t (option_map (λ us. (u ∷ []) ++ us) o)
good_more t u None g h = tt
good_more t u (Some us) g h = (g, h)

good_same : (t : Table) (o : Option (List Use)) → GoodIf t o → GoodIf t (option_map (λ us. [] ++ us) o)
good_same t None h = tt
good_same t (Some us) h = h

good_named : (t : Table) (name : Text) (v : Option Text) (b : Option Bool) (ws : List Text) → takes_value t name ≡ b
    → ((place : Place) → Knows t place → GoodIf t (uses t ws place)) → GoodIf t (then_uses (named b name v) (uses t ws))
good_named t name v None ws is next = tt
good_named t name None (Some true) ws is next = good_same t (uses t ws (wants name)) (next (wants name) is)
good_named t name (Some v) (Some true) ws is next = good_more t (name, v ∷ []) (uses t ws free) (inl (true, is, refl)) (next free tt)
good_named t name None (Some false) ws is next = good_more t (name, []) (uses t ws free) (inl (false, is, refl)) (next free tt)
good_named t name (Some v) (Some false) ws is next = tt

good_free : (t : Table) (w : Text) (form : Form) (ws : List Text)
    → ((place : Place) → Knows t place → GoodIf t (uses t ws place)) → GoodIf t (then_uses (met_free t w form) (uses t ws))
good_free t w plain ws next = good_more t ([], w ∷ []) (uses t ws free) (inr (w, refl)) (next free tt)
good_free t w closing ws next = good_same t (uses t ws ended) (next ended tt)
good_free t w (long name v) ws next = good_named t name v (takes_value t name) ws refl next
good_free t w short ws next = tt

good_wants : (t : Table) (name w : Text) (form : Form) (ws : List Text) → takes_value t name ≡ Some true
    → ((place : Place) → Knows t place → GoodIf t (uses t ws place)) → GoodIf t (then_uses (met_wants name w form) (uses t ws))
good_wants t name w plain ws is next = good_more t (name, w ∷ []) (uses t ws free) (inl (true, is, refl)) (next free tt)
good_wants t name w closing ws is next = tt
good_wants t name w (long other v) ws is next = tt
good_wants t name w short ws is next = tt

good_uses : (t : Table) (ws : List Text) (place : Place) → Knows t place → GoodIf t (uses t ws place)
good_uses t [] free k = tt
good_uses t [] (wants name) k = tt
good_uses t [] ended k = tt
good_uses t (w ∷ ws) free k = good_free t w (form_of w) ws (good_uses t ws)
good_uses t (w ∷ ws) (wants name) k = good_wants t name w (form_of w) ws k (good_uses t ws)
good_uses t (w ∷ ws) ended k = good_more t ([], w ∷ []) (uses t ws ended) (inr (w, refl)) (good_uses t ws ended tt)

-- ---- rows, by their ids

row_there : (id : Text) (rows : List Row) → has_row id rows ≡ is_some (all_of id rows)
row_there id [] = refl
row_there id (r ∷ rs) = go (bytes_eq r.id id) (row_there id rs)
  where
    go : (b : Bool) → has_row id rs ≡ is_some (all_of id rs)
        → (b || has_row id rs) ≡ is_some (option_map (λ (x : Row). x.values) (cond b (Some r) (find (λ x. bytes_eq x.id id) rs)))
    go true h = refl
    go false h = h

without_none : (id : Text) (rows : List Row) → has_row id rows ≡ false → without id rows ≡ rows
without_none id [] h = refl
without_none id (r ∷ rs) h = go (bytes_eq r.id id) (without_none id rs) h
  where
    go : (b : Bool) → (has_row id rs ≡ false → without id rs ≡ rs) → (b || has_row id rs) ≡ false → cond b ([] ++ rs) (r ∷ without id rs) ≡ r ∷ rs
    go true next e = cc
    go false next e = ap (λ x. r ∷ x) (next e)

abbrev added : Text → List Text → Text → Option (List Text) → Option (List Text) → Option (List Text)
added id values other own old = if bytes_eq id other then Some (unwrap_or own [] ++ values) else old

values_added : (id other : Text) (how : Reading) (s : ValueSource) (values : List Text) (rows : List Row)
    → all_of other (with_values id how s values rows) ≡ added id values other (all_of id rows) (all_of other rows)
values_added id other how s values [] = go (bytes_eq id other)
  where
    go : (b : Bool) → option_map (λ (x : Row). x.values) (cond b (Some (record { id = id; values = values; count = None; source = Some s; reading = how })) None)
        ≡ (if b then Some (unwrap_or None [] ++ values) else None)
    go true = refl
    go false = refl
values_added id other how s values (r ∷ rs) = go (bytes_eq r.id id) refl (values_added id other how s values rs)
  where
    pick : (b : Bool) (x : Row) (vs : List Text) (o : Option Row) → x.values ≡ vs
        → option_map (λ (y : Row). y.values) (cond b (Some x) o) ≡ (if b then Some vs else option_map (λ (y : Row). y.values) (cond b (Some r) o))
    pick true x vs o h = ap (λ v. Some v) h
    pick false x vs o h = refl

    keep : (b d : Bool) (o p : Option Row) (vs : Option (List Text)) → (b ≡ true → d ≡ false)
        → option_map (λ (y : Row). y.values) o ≡ (if d then vs else option_map (λ (y : Row). y.values) p)
        → option_map (λ (y : Row). y.values) (cond b (Some r) o) ≡ (if d then vs else option_map (λ (y : Row). y.values) (cond b (Some r) p))
    keep true d o p vs apart h = rw (apart refl) refl
    keep false d o p vs apart h = h

    apart : bytes_eq r.id id ≡ false → (d : Bool) → bytes_eq id other ≡ d → bytes_eq r.id other ≡ true → d ≡ false
    apart e true is same =
        let no : bytes_eq r.id id ≡ true = rw (same_text r.id other same, same_text id other is) (eq_itself other) in
        cc
    apart e false is same = refl

    go : (b : Bool) → bytes_eq r.id id ≡ b
        → all_of other (with_values id how s values rs) ≡ added id values other (all_of id rs) (all_of other rs)
        → all_of other (with_values id how s values (r ∷ rs)) ≡ added id values other (all_of id (r ∷ rs)) (all_of other (r ∷ rs))
    go true e h =
        rw e (ap (λ x. option_map (λ (y : Row). y.values) (cond x (Some (record r { values = r.values ++ values; source = Some (stronger r.source s) })) (find (λ y. bytes_eq y.id other) rs))) (ap (λ n. bytes_eq n other) (same_text r.id id e))
        ∙ pick (bytes_eq id other) (record r { values = r.values ++ values; source = Some (stronger r.source s) }) (r.values ++ values) (find (λ y. bytes_eq y.id other) rs) refl
        ∙ ap (λ x. if bytes_eq id other then Some (r.values ++ values) else option_map (λ (y : Row). y.values) (cond x (Some r) (find (λ y. bytes_eq y.id other) rs))) (ap (λ n. bytes_eq n other) (sym (same_text r.id id e))))
    go false e h = rw e (keep (bytes_eq r.id other) (bytes_eq id other) _ _ _ (apart e (bytes_eq id other) refl) h)

-- ---- uses

snoc_has : (name : Text) (us : List Use) (u : Use) → has_use name (us ++ u ∷ []) ≡ (has_use name us || bytes_eq u.0 name)
snoc_has name [] u = go (bytes_eq u.0 name)
  where
    go : (b : Bool) → (b || false) ≡ b
    go true = refl
    go false = refl
snoc_has name (x ∷ us) u = go (bytes_eq x.0 name) (snoc_has name us u)
  where
    go : (b : Bool) → has_use name (us ++ u ∷ []) ≡ (has_use name us || bytes_eq u.0 name)
        → (b || has_use name (us ++ u ∷ [])) ≡ ((b || has_use name us) || bytes_eq u.0 name)
    go true h = refl
    go false h = h

snoc_values : (name : Text) (us : List Use) (u : Use) → values_of name (us ++ u ∷ []) ≡ values_of name us ++ (if bytes_eq u.0 name then u.1 else [])
snoc_values name [] u = go (bytes_eq u.0 name)
  where
    go : (b : Bool) → (if b then u.1 ++ [] else []) ≡ (if b then u.1 else [])
    go true = append-nil u.1
    go false = refl
snoc_values name (x ∷ us) u = go (bytes_eq x.0 name) (snoc_values name us u)
  where
    go : (b : Bool) → values_of name (us ++ u ∷ []) ≡ values_of name us ++ (if bytes_eq u.0 name then u.1 else [])
        → (if b then x.1 ++ values_of name (us ++ u ∷ []) else values_of name (us ++ u ∷ []))
        ≡ (if b then x.1 ++ values_of name us else values_of name us) ++ (if bytes_eq u.0 name then u.1 else [])
    go true h = ap (λ vs. x.1 ++ vs) h ∙ sym (append_assoc x.1 (values_of name us) _)
    go false h = h

no_values : (name : Text) (us : List Use) → has_use name us ≡ false → values_of name us ≡ []
no_values name [] h = refl
no_values name (u ∷ us) h = go (bytes_eq u.0 name) h (no_values name us)
  where
    go : (b : Bool) → (b || has_use name us) ≡ false → (has_use name us ≡ false → values_of name us ≡ [])
        → (if b then u.1 ++ values_of name us else values_of name us) ≡ []
    go true e next = cc
    go false e next = next e

given_there : (name : Text) (us : List Use) → is_some (given name us) ≡ has_use name us
given_there name us = go (has_use name us)
  where
    go : (b : Bool) → is_some (if b then Some (values_of name us) else None) ≡ b
    go true = refl
    go false = refl

given_added : (name : Text) (us : List Use) (u : Use) → given name (us ++ u ∷ []) ≡ added u.0 u.1 name (given u.0 us) (given name us)
given_added name us u = rw (snoc_has name us u, snoc_values name us u) (go (bytes_eq u.0 name) refl)
  where
    own : (h : Bool) → has_use u.0 us ≡ h → values_of u.0 us ≡ unwrap_or (if h then Some (values_of u.0 us) else None) []
    own true e = refl
    own false e = no_values u.0 us e

    none : (h : Bool) → (if (h || false) then Some (values_of name us ++ []) else None) ≡ (if h then Some (values_of name us) else None)
    none true = ap (λ vs. Some vs) (append-nil (values_of name us))
    none false = refl

    some : (h : Bool) (vs : List Text) → (if (h || true) then Some vs else None) ≡ Some vs
    some true vs = refl
    some false vs = refl

    go : (b : Bool) → bytes_eq u.0 name ≡ b → (if (has_use name us || b) then Some (values_of name us ++ (if b then u.1 else [])) else None)
        ≡ (if b then Some (unwrap_or (given u.0 us) [] ++ u.1) else given name us)
    go true e = some (has_use name us) _ ∙ ap (λ vs. Some (vs ++ u.1)) (ap (λ n. values_of n us) (sym (same_text u.0 name e)) ∙ own (has_use u.0 us) refl)
    go false e = none (has_use name us)

-- ---- uses, one after the other

-- the rows have what the uses give
abbrev Holds : List Row → List Use → Type 0
Holds rows seen = (name : Text) → all_of name rows ≡ given name seen

known_name : (t : Table) (name : Text) (b : Bool) → has_names t ≡ true → takes_value t name ≡ Some b → is_empty name ≡ false
known_name t (x ∷ xs) b h is = refl
known_name t [] b h is = absurd (go t h is)
  where
    go : (t : Table) → has_names t ≡ true → takes_value t [] ≡ Some b → ⊥
    go [] h is = cc
    go (([], v) ∷ t) h is = cc
    go ((x ∷ xs, v) ∷ t) h is = go t h is

-- a use that is the first of its option, or a plain word
abbrev Takes : Table → Use → List Row → List Use → Bool → Type 0
Takes t u rows seen true = (use_fails t u rows ≡ []) × Holds (after_use t u rows) (seen ++ u ∷ [])
Takes t u rows seen false = use_fails t u rows ≢ []

row_known : (name : Text) (rows : List Row) (seen : List Use) (h : Bool) → Holds rows seen → has_use name seen ≡ h → has_row name rows ≡ h
row_known name rows seen h holds has = row_there name rows ∙ ap is_some (holds name) ∙ given_there name seen ∙ has

option_used : (t : Table) (name : Text) (vs : List Text) (b : Bool) (rows : List Row) (seen : List Use) → takes_value t name ≡ Some b → length vs ≡ values_taken b
    → Holds rows seen → (h : Bool) → has_use name seen ≡ h → Takes t (name, vs) rows seen (not h)
option_used t name [] true rows seen is n holds h has = cc
option_used t name (v ∷ w ∷ vs) true rows seen is n holds h has = absurd (omega (arith, n))
option_used t name (v ∷ vs) false rows seen is n holds h has = absurd (omega (arith, n))
option_used t name (v ∷ []) true rows seen is n holds true has =
    let fails : use_fails t (name, v ∷ []) rows ≡ kind.ArgumentConflict ∷ [] = rw (by_id t name true is, row_known name rows seen true holds has) refl in
    λ e. cc
option_used t name [] false rows seen is n holds true has =
    let fails : use_fails t (name, []) rows ≡ kind.ArgumentConflict ∷ [] = rw (by_id t name false is, row_known name rows seen true holds has) refl in
    λ e. cc
option_used t name (v ∷ []) true rows seen is n holds false has = (
  rw (by_id t name true is, row_known name rows seen false holds has) refl,
  λ other. rw (by_id t name true is, without_none name rows (row_known name rows seen false holds has))
      (values_added name other _ _ (v ∷ []) rows ∙ ap₂ (λ x y. added name (v ∷ []) other x y) (holds name) (holds other) ∙ sym (given_added other seen (name, v ∷ []))),
)
option_used t name [] false rows seen is n holds false has = (
  rw (by_id t name false is, row_known name rows seen false holds has) refl,
  λ other. rw (by_id t name false is, without_none name rows (row_known name rows seen false holds has))
      (values_added name other _ _ [] rows ∙ ap₂ (λ x y. added name [] other x y) (holds name) (holds other) ∙ sym (given_added other seen (name, []))),
)

word_used : (t : Table) (w : Text) (rows : List Row) (seen : List Use) → has_names t ≡ true → Holds rows seen → Takes t ([], w ∷ []) rows seen true
word_used t w rows seen names holds = (
  rw (by_no_name t names) refl,
  λ name. rw (by_no_name t names) (values_added [] name _ _ (w ∷ []) rows ∙ ap₂ (λ x y. added [] (w ∷ []) name x y) (holds []) (holds name) ∙ sym (given_added name seen ([], w ∷ []))),
)

used_once : (t : Table) (u : Use) → has_names t ≡ true → IsGood t u → (rows : List Row) (seen : List Use) → Holds rows seen → Takes t u rows seen (is_plain u || not (has_use u.0 seen))
used_once t u names (inl g) rows seen holds =
    subst (λ e. Takes t u rows seen (e || not (has_use u.0 seen))) (sym (known_name t u.0 g.0 names g.1)) (option_used t u.0 u.1 g.0 rows seen g.1 g.2 holds (has_use u.0 seen) refl)
used_once t u names (inr g) rows seen holds =
    subst (λ v. Takes t v rows seen (is_plain v || not (has_use v.0 seen))) (sym g.1) (word_used t g.0 rows seen names holds)

abbrev Ends : Table → List Use → List Row → List Use → Bool → Type 0
Ends t us rows seen true = (uses_fail t us rows ≡ []) × Holds (after_uses t us rows) (seen ++ us)
Ends t us rows seen false = uses_fail t us rows ≢ []

ends : (t : Table) (us : List Use) → has_names t ≡ true → AreGood t us → (rows : List Row) (seen : List Use) → Holds rows seen → Ends t us rows seen (is_fresh seen us)
ends t [] names g rows seen holds = (refl, λ name. holds name ∙ ap (given name) (sym (append-nil seen)))
ends t (u ∷ us) names g rows seen holds = go (is_plain u || not (has_use u.0 seen)) (used_once t u names g.0 rows seen holds) (ends t us names g.1 (after_use t u rows) (seen ++ u ∷ []))
  where
    rest : (b : Bool) → use_fails t u rows ≡ [] → Ends t us (after_use t u rows) (seen ++ u ∷ []) b → Ends t (u ∷ us) rows seen b
    rest true none e = (rw none e.0, λ name. e.1 name ∙ ap (given name) (append_assoc seen (u ∷ []) us))
    rest false none e = λ bad. e (rw none at bad)

    go : (b : Bool) → Takes t u rows seen b
        → (Holds (after_use t u rows) (seen ++ u ∷ []) → Ends t us (after_use t u rows) (seen ++ u ∷ []) (is_fresh (seen ++ u ∷ []) us))
        → Ends t (u ∷ us) rows seen (b && is_fresh (seen ++ u ∷ []) us)
    go true h next = rest (is_fresh (seen ++ u ∷ []) us) h.0 (next h.1)
    go false h next = fails_first _ _ h

-- ---- the whole parse

default_none : (b : Bool) (rows : List Row) → (if b then rows else rows) ≡ rows
default_none true rows = refl
default_none false rows = refl

or_true : (b : Bool) → (b || true) ≡ true
or_true true = refl
or_true false = refl

no_defaults : (t : Table) (rows : List Row) → defaults_fault rows (rules_in t) ≡ []
unfolding defaults_fault
no_defaults [] rows = rw or_true refl
no_defaults (o ∷ t) rows = rw or_true (no_defaults t (with_default rows (built_option o)))

no_rows_added : (t : Table) (rows : List Row) → fold with_default rows (rules_in t) ≡ rows
no_rows_added [] rows = default_none (has_row [] rows) rows
no_rows_added (o ∷ t) rows = ap (λ r. fold with_default r (rules_in t)) (default_none (has_row o.0 rows) rows) ∙ no_rows_added t rows

none_required : (t : Table) (rows : List Row) → list_any (λ a. a.required && not (is_given a.id rows)) (rules_in t) ≡ false
none_required [] rows = refl
none_required (o ∷ t) rows = none_required t rows

abbrev made : Table → App
made t = record { top = built_shape t; subs = [] }

not_entered : (t : Table) (stop : Option (Text × List Text)) → (entered (made t) stop ≡ None) × (entered_fault (made t) stop ≡ [])
not_entered t None = (refl, refl)
not_entered t (Some p) = (refl, refl)

whole_fault : (t : Table) (ws : List Text) → fault_of (app t) ws ≡ end_fault t ws (walk_from nothing_held)
whole_fault t ws =
    let end = walk (rules_in t) [] nothing_held ws in
    ap (λ a. built_fault a nothing_held ws) (is_built t)
    ∙ rw ((not_entered t end.stopped).0, (not_entered t end.stopped).1, no_defaults t (settled (rules_in t) end.held).rows, none_required t (finished (rules_in t) end.held))
    (ap (or_else (walk_fault (built_shape t) [] (walk_from nothing_held) ws)) (or_else_none (settle_fault (rules_in t) false end.held)))

whole_rows : (t : Table) (ws : List Text) → matches_of (app t) ws ≡ end_rows t ws (walk_from nothing_held)
whole_rows t ws = ap (λ a. rows_after a.top.rules (names_of a) ws) (is_built t) ∙ no_rows_added t (end_rows t ws (walk_from nothing_held))

-- what the parse gives
abbrev pub Says : Table → List Text → Option (List Use) → Type 0
Says t ws None = fault_of (app t) ws ≢ []
Says t ws (Some us) = (fault_of (app t) ws ≡ []) × ((name : Text) → all_of name (matches_of (app t) ws) ≡ given name us)

pub says : (t : Table) (ws : List Text) → has_names t ≡ true → AreUtf8 ws → Says t ws (read t ws)
says t ws names utf8 = go (uses t ws free) (good_uses t ws free tt) (told t ws utf8 free [] None idle tt)
  where
    fresh : (us : List Use) (b : Bool) → uses_fail t us [] ≡ fault_of (app t) ws → after_uses t us [] ≡ matches_of (app t) ws → Ends t us [] [] b → Says t ws (if b then Some us else None)
    fresh us true f r e = (sym f ∙ e.0, λ name. rw (sym r) (e.1 name))
    fresh us false f r e = λ bad. e (f ∙ bad)

    go : (o : Option (List Use)) → GoodIf t o → Agrees t o (end_fault t ws (walk_from nothing_held)) (end_rows t ws (walk_from nothing_held)) [] []
        → Says t ws (option_and_then once o)
    go None g h = λ bad. h (sym (whole_fault t ws) ∙ bad)
    go (Some us) g h = fresh us (is_fresh [] us) (sym h.0 ∙ sym (whole_fault t ws)) (sym h.1 ∙ sym (whole_rows t ws)) (ends t us names g [] [] (λ name. refl))

-- ---- the command is one of which clap's contract speaks

all_simple : (t : Table) → list_all (λ a. a.is_simple) (map option_rule t ++ word_rule ∷ []) ≡ true
all_simple [] = refl
all_simple (o ∷ t) = all_simple t

rules_simple : (t : Table) → (list_all (λ a. a.is_simple) (rules_in t) ≡ true) × (list_all (λ a. a.is_free) (rules_in t) ≡ true)
rules_simple [] = (refl, refl)
rules_simple (o ∷ t) = rules_simple t

one_position : (t : Table) → count_by (λ a. is_some a.index) (rules_in t) ≡ 1
one_position [] = refl
one_position (o ∷ t) = one_position t

in_order : (t : Table) → list_any (is_early_multiple 1) (rules_in t) ≡ false
in_order [] = refl
in_order (o ∷ t) = in_order t

pub simple : (t : Table) → is_simple (app t) ≡ true
simple t = rw (all_simple t, filled_rules t, (rules_simple t).0, one_position t, in_order t) refl

pub simple_and_free : (t : Table) → is_simple_and_free (app t) ≡ true
simple_and_free t = rw (all_simple t, filled_rules t, (rules_simple t).0, (rules_simple t).1, one_position t, in_order t) refl

-- ---- what the caller of the parse concludes

pub accepted : (t : Table) (ws : List Text) (w : Words) (o : Option (List Use)) → Says t ws o → fault_of (app t) ws ≡ []
    → rows_of (found_of w.matches) ≡ matches_of (app t) ws → Tells o (Some w)
accepted t ws w None is none rows = absurd (is none)
accepted t ws w (Some us) is none rows = λ name. ap (all_of name) rows ∙ is.1 name

pub refused : (t : Table) (ws : List Text) (e : Error) (o : Option (List Use)) → Says t ws o → HasKind (fault_of (app t) ws) e
    → kind_of e ≢ kind.OutOfMemory → Tells o None
refused t ws e None is has other = refl
refused t ws e (Some us) is has other = go (fault_of (app t) ws) is.0 has
  where
    go : (ks : Kinds) → ks ≡ [] → HasKind ks e → ⊥
    go ks none (inl memory) = other memory
    go ks none (inr among) = subst (IsAmong (kind_of e)) none among
