-- A journal of passes that have seen what they made: what one of them has seen, and what was made since.
use Rattle.std.proofs.Common.{◌≡◌, ◌∙◌, ◌≤◌, ◌<◌, ⊎_elim, ℕ, zero, suc, ◌==◌, Bool, true, false, cond, List, [], ◌∷◌, ◌++◌, length, map, refl, ap, sym, subst, arith, eq-eqb, length-append}
use Rattle.std.proofs.lemmas.Bool.{cases_lt}
use Rattle.std.proofs.lemmas.List.{append-nil}
use Rattle.std.proofs.lemmas.List.Elements.{Contains-append_cases, Contains-append_right, filter-append}
use Rattle.std.specs.List.{AllByRecursion, Contains}
use Rattle.std.specs.Prelude.{slice_index_or}
use mathlib.Core.List.{IsPrefix}
use Rattle.chan_types.specs.declared.journal.Entry.{Entry}
use Rattle.channel_model.specs.Journal.{own_entries}
use Rattle.shared_channel.specs.Finishing.{HasSeenOwn, IsNumberOfOne}
use Rattle.shared_channel.specs.Passes.{PassView}
use Rattle.shared_channel.proofs.JoinLemmas.{prefix_trans}

-- a list of one has that one alone
pub only_one : {A : Type 0} (x y : A) → Contains (x ∷ []) y → y ≡ x
only_one x y h = single h.0 h.1 h.2
  where
    single : (k : ℕ) → k < 1 → slice_index_or (x ∷ []) k y ≡ y → y ≡ x
    single zero lt e = sym e
    single (suc k) lt e = absurd (omega (arith, lt))

no_item : {A : Type 0} (xs : List A) → length xs ≡ 0 → xs ≡ []
no_item [] e = refl
no_item (x ∷ xs) e = absurd (omega (arith, e))

-- what holds of each in two lists
pub each_behind : {A : Type 0} (P : A → Type 0) (xs ys : List A) → AllByRecursion P (xs ++ ys) → AllByRecursion P ys
each_behind P [] ys each = each
each_behind P (x ∷ xs) ys each = each_behind P xs ys each.1

pub each_front : {A : Type 0} (P : A → Type 0) (xs ys : List A) → AllByRecursion P (xs ++ ys) → AllByRecursion P xs
each_front P [] ys each = tt
each_front P (x ∷ xs) ys each = (each.0, each_front P xs ys each.1)

-- of two beginnings of a list the shorter one is a beginning of the other
shorter : {A : Type 0} (xs ys more rest : List A) → xs ++ more ≡ ys ++ rest → length xs ≤ length ys → IsPrefix xs ys
shorter [] ys more rest same le = (ys, refl)
shorter (x ∷ xs) [] more rest same le = absurd (omega (arith, le))
shorter {A = A} (x ∷ xs) (y ∷ ys) more rest same le =
    let head : x ≡ y = cc same in
    let tail : xs ++ more ≡ ys ++ rest = cc same in
    let p : IsPrefix xs ys = shorter xs ys more rest tail (omega (arith, le)) in
    (p.0, ap (λ z. z ∷ (xs ++ p.0)) head ∙ ap (λ l. y ∷ l) p.1)

-- the longest of some beginnings
record Longest (lists : List (List Entry)) (whole : List Entry) : Type 0 where
  found : List Entry
  one : Contains lists found
  begins : IsPrefix found whole
  each : AllByRecursion (λ l. IsPrefix l found) lists

longest : (first : List Entry) (lists : List (List Entry)) (whole : List Entry) → AllByRecursion (λ l. IsPrefix l whole) (first ∷ lists) → Longest (first ∷ lists) whole
longest first [] whole each = record { found = first; one = (0, omega arith, refl); begins = each.0; each = (([], append-nil first), tt) }
longest first (next ∷ lists) whole each = with_first (longest next lists whole each.1)
  where
    further : (a b : List Entry) (ls : List (List Entry)) → IsPrefix a b → AllByRecursion (λ l. IsPrefix l a) ls → AllByRecursion (λ l. IsPrefix l b) ls
    further a b [] p each = tt
    further a b (l ∷ ls) p each = (prefix_trans l a b each.0 p, further a b ls p each.1)

    with_first : Longest (next ∷ lists) whole → Longest (first ∷ next ∷ lists) whole
    with_first more = ⊎_elim (λ (lt : length first < length more.found). under (omega (arith, lt))) over (cases_lt (length first) (length more.found))
      where
        under : length first ≤ length more.found → Longest (first ∷ next ∷ lists) whole
        under le = record {
          found = more.found;
          one = Contains-append_right (first ∷ []) (next ∷ lists) more.found more.one;
          begins = more.begins;
          each = (shorter first more.found each.0.0 more.begins.0 (each.0.1 ∙ sym more.begins.1) le, more.each);
        }

        over : length more.found ≤ length first → Longest (first ∷ next ∷ lists) whole
        over le =
            let p : IsPrefix more.found first = shorter more.found first more.begins.0 each.0.0 (more.begins.1 ∙ sym each.0.1) le in
            record { found = first; one = (0, omega arith, refl); begins = each.0; each = (([], append-nil first), further more.found first (next ∷ lists) p more.each) }

module _ (p : PassView) (before since : List Entry) (seen_own : HasSeenOwn p) (begins : IsPrefix p.seen before) (owns : p.own ≡ own_entries p.number (before ++ since)) where
  parts : own_entries p.number (before ++ since) ≡ own_entries p.number before ++ own_entries p.number since
  parts = filter-append (λ (entry : Entry). entry.seat == p.number) before since

  front : own_entries p.number before ≡ p.own ++ own_entries p.number begins.0
  front = ap (own_entries p.number) (sym begins.1) ∙ filter-append (λ (entry : Entry). entry.seat == p.number) p.seen begins.0 ∙ ap (λ l. l ++ own_entries p.number begins.0) (sym seen_own)

  -- a pass that has seen what it made made nothing since, and all before
  pub none_since : own_entries p.number since ≡ []
  none_since = no_item (own_entries p.number since)
      (omega (arith, ap length owns, ap length parts, ap length front, length-append (own_entries p.number before) (own_entries p.number since), length-append p.own (own_entries p.number begins.0)))

  pub all_before : p.own ≡ own_entries p.number before
  all_before = owns ∙ parts ∙ ap (λ l. own_entries p.number before ++ l) none_since ∙ append-nil (own_entries p.number before)

-- a pass made none of these entries
abbrev pub MadeNone : List Entry → PassView → Type 0
MadeNone entries pass = own_entries pass.number entries ≡ []

made_fewer : (e : Entry) (es : List Entry) (ps : List PassView) → AllByRecursion (MadeNone (e ∷ es)) ps → AllByRecursion (MadeNone es) ps
made_fewer e es [] none = tt
made_fewer e es (p ∷ ps) none = (by_test (e.seat == p.number) none.0, made_fewer e es ps none.1)
  where
    by_test : (b : Bool) → cond b (e ∷ own_entries p.number es) (own_entries p.number es) ≡ [] → own_entries p.number es ≡ []
    by_test true h = absurd (omega (arith, ap length h))
    by_test false h = h

-- so none of them is its maker's
not_of : (e : Entry) (es : List Entry) (ps : List PassView) → AllByRecursion (MadeNone (e ∷ es)) ps → IsNumberOfOne ps e.seat → ⊥
not_of e es [] none is = omega (arith, is.1)
not_of e es (p ∷ ps) none is = ⊎_elim (λ h. here (only_one p.number e.seat h)) (not_of e es ps none.1) (Contains-append_cases (p.number ∷ []) (map (λ (q : PassView). q.number) ps) e.seat is)
  where
    here : e.seat ≡ p.number → ⊥
    here same = let some : e ∷ own_entries p.number es ≡ [] = sym (ap (λ b. cond b (e ∷ own_entries p.number es) (own_entries p.number es)) (eq-eqb e.seat p.number same)) ∙ none.0 in omega (arith, ap length some)

-- entries that passes made, and of which none made one, are none
pub nothing_made : (es : List Entry) (ps : List PassView) → AllByRecursion (λ (e : Entry). IsNumberOfOne ps e.seat) es → AllByRecursion (MadeNone es) ps → es ≡ []
nothing_made [] ps makers none = refl
nothing_made (e ∷ es) ps makers none = absurd (not_of e es ps none makers.0)

-- entries that passes made, and those behind the first made none of, are the first's
pub first_made : (es : List Entry) (p : PassView) (ps : List PassView) → AllByRecursion (λ (e : Entry). IsNumberOfOne (p ∷ ps) e.seat) es → AllByRecursion (MadeNone es) ps → AllByRecursion (λ (e : Entry). e.seat ≡ p.number) es
first_made [] p ps makers none = tt
first_made (e ∷ es) p ps makers none = (
  ⊎_elim (only_one p.number e.seat) (λ h. absurd (not_of e es ps none h)) (Contains-append_cases (p.number ∷ []) (map (λ (q : PassView). q.number) ps) e.seat makers.0),
  first_made es p ps makers.1 (made_fewer e es ps none),
)

-- passes that have seen what they made made nothing since, and have all of theirs before
module _ (before since : List Entry) where
  abbrev Owns : PassView → Type 0
  Owns q = q.own ≡ own_entries q.number (before ++ since)

  pub each_made_none : (ps : List PassView) → AllByRecursion HasSeenOwn ps → AllByRecursion (λ (q : PassView). IsPrefix q.seen before) ps → AllByRecursion Owns ps → AllByRecursion (MadeNone since) ps
  each_made_none [] own seen owns = tt
  each_made_none (p ∷ ps) own seen owns = (none_since p before since own.0 seen.0 owns.0, each_made_none ps own.1 seen.1 owns.1)

  pub each_before : (ps : List PassView) → AllByRecursion HasSeenOwn ps → AllByRecursion (λ (q : PassView). IsPrefix q.seen before) ps → AllByRecursion Owns ps → AllByRecursion (λ (q : PassView). q.own ≡ own_entries q.number before) ps
  each_before [] own seen owns = tt
  each_before (p ∷ ps) own seen owns = (all_before p before since own.0 seen.0 owns.0, each_before ps own.1 seen.1 owns.1)

-- what begins with what each pass has seen, and has entries of theirs alone, is what one of them has seen
module _ (p : PassView) (ps : List PassView) (whole : List Entry) where
  abbrev lists : List PassView → List (List Entry)
  lists qs = map (λ (q : PassView). q.seen) qs

  to_lists : (found : List Entry) (qs : List PassView) → AllByRecursion (λ (q : PassView). IsPrefix q.seen found) qs → AllByRecursion (λ l. IsPrefix l found) (lists qs)
  to_lists found [] each = tt
  to_lists found (q ∷ qs) each = (each.0, to_lists found qs each.1)

  of_lists : (found : List Entry) (qs : List PassView) → AllByRecursion (λ l. IsPrefix l found) (lists qs) → AllByRecursion (λ (q : PassView). IsPrefix q.seen found) qs
  of_lists found [] each = tt
  of_lists found (q ∷ qs) each = (each.0, of_lists found qs each.1)

  pub seen_by_one : AllByRecursion (λ (q : PassView). IsPrefix q.seen whole) (p ∷ ps) → AllByRecursion HasSeenOwn (p ∷ ps)
      → AllByRecursion (λ (q : PassView). q.own ≡ own_entries q.number whole) (p ∷ ps) → AllByRecursion (λ (e : Entry). IsNumberOfOne (p ∷ ps) e.seat) whole
      → Contains (map (λ (q : PassView). q.seen) (p ∷ ps)) whole
  seen_by_one seen own owns makers =
      let l : Longest (lists (p ∷ ps)) whole = longest p.seen (lists ps) whole (to_lists whole (p ∷ ps) seen) in
      let rest : List Entry = l.begins.0 in
      let parts : l.found ++ rest ≡ whole = l.begins.1 in
      let none : AllByRecursion (MadeNone rest) (p ∷ ps) = each_made_none l.found rest (p ∷ ps) own (of_lists l.found (p ∷ ps) l.each)
      (subst (λ w. AllByRecursion (λ (q : PassView). q.own ≡ own_entries q.number w) (p ∷ ps)) (sym parts) owns) in
      let made : AllByRecursion (λ (e : Entry). IsNumberOfOne (p ∷ ps) e.seat) rest = each_behind (λ (e : Entry). IsNumberOfOne (p ∷ ps) e.seat) l.found rest
      (subst (AllByRecursion (λ (e : Entry). IsNumberOfOne (p ∷ ps) e.seat)) (sym parts) makers) in
      let same : l.found ≡ whole = sym (append-nil l.found) ∙ ap (λ r. l.found ++ r) (sym (nothing_made rest (p ∷ ps) made none)) ∙ parts in
      subst (Contains (lists (p ∷ ps))) same l.one

-- the filter of entries of one number
pub own_all : (n : ℕ) (es : List Entry) → AllByRecursion (λ (e : Entry). e.seat ≡ n) es → own_entries n es ≡ es
own_all n [] each = refl
own_all n (e ∷ es) each = rw (eq-eqb e.seat n each.0) (ap (λ l. e ∷ l) (own_all n es each.1))
