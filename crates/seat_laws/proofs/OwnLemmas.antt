-- The positions of a seat's own entries, and what all seats' entries pass.
use Rattle.std.proofs.Common.{◌≡◌, ◌∙◌, ℕ, ◌+◌, ◌≤◌, ◌<◌, ◌==◌, ◌&&◌, ◌||◌, Bool, true, false, not, cond, List, [], ◌∷◌, ◌++◌, length, nat_lt, refl, ap, arith, eq-eqb, ltb-true}
use Rattle.std.proofs.lemmas.Bool.{and_from}
use Rattle.std.specs.List.{AllByRecursion, list_all}
use Rattle.chan_types.specs.declared.journal.Entry.{Entry}
use Rattle.channel_model.specs.Commands.{positions_from}
use Rattle.channel_model.specs.Journal.{own_entries}
use Rattle.seat_laws.proofs.ListLemmas.{first_passes}

-- ---- positions

-- they lie between the first and the last
pub positions_above : (test : Entry → Bool) (from least : ℕ) (xs : List Entry) → least ≤ from → AllByRecursion (λ p. least ≤ p) (positions_from test from xs)
positions_above test from least [] le = tt
positions_above test from least (x ∷ xs) le = by (test x) (positions_above test (from + 1) least xs (omega (arith, le)))
  where
    by : (b : Bool) → AllByRecursion (λ p. least ≤ p) (positions_from test (from + 1) xs) → AllByRecursion (λ p. least ≤ p) (cond b (from ∷ []) [] ++ positions_from test (from + 1) xs)
    by true rest = (le, rest)
    by false rest = rest

pub positions_below : (test : Entry → Bool) (from end : ℕ) (xs : List Entry) → from + length xs ≤ end → AllByRecursion (λ p. p < end) (positions_from test from xs)
positions_below test from end [] le = tt
positions_below test from end (x ∷ xs) le = by (test x) (positions_below test (from + 1) end xs (omega (arith, le)))
  where
    by : (b : Bool) → AllByRecursion (λ p. p < end) (positions_from test (from + 1) xs) → AllByRecursion (λ p. p < end) (cond b (from ∷ []) [] ++ positions_from test (from + 1) xs)
    by true rest = (omega (arith, le), rest)
    by false rest = rest

-- entries that pass one test where they pass another
pub same_positions : (p q : Entry → Bool) (from : ℕ) (es : List Entry) → list_all (λ e. not (p e) || q e) es ≡ true → positions_from p from es ≡ positions_from (λ e. q e && p e) from es
same_positions p q from [] h = refl
same_positions p q from (e ∷ es) h =
    let now = first_passes (λ x. not (p x) || q x) e es h in
    by (p e) (q e) now.0 (same_positions p q (from + 1) es now.1)
  where
    by : (a b : Bool) → (not a || b) ≡ true → positions_from p (from + 1) es ≡ positions_from (λ x. q x && p x) (from + 1) es →
        cond a (from ∷ []) [] ++ positions_from p (from + 1) es ≡ cond (b && a) (from ∷ []) [] ++ positions_from (λ x. q x && p x) (from + 1) es
    by true true h rest = ap (λ l. from ∷ l) rest
    by true false h rest = absurd (cc h)
    by false true h rest = rest
    by false false h rest = rest

module _ (seat : ℕ) where
  -- the first of the entries of some, and the others
  own_first : (test : Entry → Bool) (e : Entry) (es : List Entry) → list_all test (own_entries seat (e ∷ es)) ≡ true → (((e.seat == seat) ≡ true → test e ≡ true) × (list_all test (own_entries seat es) ≡ true))
  own_first test e es h = by (e.seat == seat) h
    where
      by : (b : Bool) → list_all test (cond b (e ∷ own_entries seat es) (own_entries seat es)) ≡ true → ((b ≡ true → test e ≡ true) × (list_all test (own_entries seat es) ≡ true))
      by true h = let now = first_passes test e (own_entries seat es) h in (λ is. now.0, now.1)
      by false h = (λ is. absurd (cc is), h)

  -- where none of a seat's entries passes a test, no position is one of its that does
  pub own_nowhere : (test : Entry → Bool) (from : ℕ) (es : List Entry) → list_all (λ e. not (test e)) (own_entries seat es) ≡ true → positions_from (λ e. (e.seat == seat) && test e) from es ≡ []
  own_nowhere test from [] h = refl
  own_nowhere test from (e ∷ es) h =
      let now = own_first (λ x. not (test x)) e es h in
      by (e.seat == seat) (test e) now.0 (own_nowhere test (from + 1) es now.1)
    where
      by : (a b : Bool) → (a ≡ true → not b ≡ true) → positions_from (λ x. (x.seat == seat) && test x) (from + 1) es ≡ [] → cond (a && b) (from ∷ []) [] ++ positions_from (λ x. (x.seat == seat) && test x) (from + 1) es ≡ []
      by true true fails rest = absurd (let h : false ≡ true = fails refl in cc h)
      by true false fails rest = rest
      by false b fails rest = rest

  -- and where each does, the positions are those of all of the seat's entries
  pub own_everywhere : (test : Entry → Bool) (from : ℕ) (es : List Entry) → list_all test (own_entries seat es) ≡ true → positions_from (λ e. (e.seat == seat) && test e) from es ≡ positions_from (λ e. e.seat == seat) from es
  own_everywhere test from [] h = refl
  own_everywhere test from (e ∷ es) h =
      let now = own_first test e es h in
      by (e.seat == seat) (test e) now.0 (own_everywhere test (from + 1) es now.1)
    where
      by : (a b : Bool) → (a ≡ true → b ≡ true) → positions_from (λ x. (x.seat == seat) && test x) (from + 1) es ≡ positions_from (λ x. x.seat == seat) (from + 1) es →
          cond (a && b) (from ∷ []) [] ++ positions_from (λ x. (x.seat == seat) && test x) (from + 1) es ≡ cond a (from ∷ []) [] ++ positions_from (λ x. x.seat == seat) (from + 1) es
      by true true holds rest = ap (λ l. from ∷ l) rest
      by true false holds rest = absurd (let h : false ≡ true = holds refl in cc h)
      by false b holds rest = rest

  -- there are as many positions as entries
  pub as_many_positions : (from : ℕ) (es : List Entry) → length (positions_from (λ e. e.seat == seat) from es) ≡ length (own_entries seat es)
  as_many_positions from [] = refl
  as_many_positions from (e ∷ es) = by (e.seat == seat) (as_many_positions (from + 1) es)
    where
      by : (b : Bool) → length (positions_from (λ x. x.seat == seat) (from + 1) es) ≡ length (own_entries seat es) →
          length (cond b (from ∷ []) [] ++ positions_from (λ x. x.seat == seat) (from + 1) es) ≡ length (cond b (e ∷ own_entries seat es) (own_entries seat es))
      by true rest = omega (arith, rest)
      by false rest = rest

  -- the one position of one entry
  pub record HasOne (from : ℕ) (es : List Entry) : Type 0 where
    pub at : ℕ
    pub positions : positions_from (λ e. e.seat == seat) from es ≡ at ∷ []
    pub least : from ≤ at
    pub most : at < from + length es

  pub one_position : (from : ℕ) (es : List Entry) → length (own_entries seat es) ≡ 1 → HasOne from es
  one_position from es one =
      by (positions_from (λ e. e.seat == seat) from es) refl (as_many_positions from es ∙ one) (positions_above (λ e. e.seat == seat) from from es (omega arith))
      (positions_below (λ e. e.seat == seat) from (from + length es) es (omega arith))
    where
      by : (ps : List ℕ) → positions_from (λ e. e.seat == seat) from es ≡ ps → length ps ≡ 1 → AllByRecursion (λ p. from ≤ p) ps → AllByRecursion (λ p. p < from + length es) ps → HasOne from es
      by [] is one above below = absurd (omega (arith, one))
      by (p ∷ []) is one above below = record { at = p; positions = is; least = above.0; most = below.0 }
      by (p ∷ q ∷ ps) is one above below = absurd (omega (arith, one))

-- ---- all seats

-- what each seat's entries pass, all do that are of one of the seats
pub each_seated : (q : ℕ → Entry → Bool) (count : ℕ) (es : List Entry) → list_all (λ e. nat_lt e.seat count) es ≡ true →
    ((seat : ℕ) → seat < count → list_all (q seat) (own_entries seat es) ≡ true) → list_all (λ e. q e.seat e) es ≡ true
each_seated q count [] seated each = refl
each_seated q count (e ∷ es) seated each =
    let now = first_passes (λ x. nat_lt x.seat count) e es seated in
    and_from (q e.seat e) (list_all (λ x. q x.seat x) es)
    ((own_first e.seat (q e.seat) e es (each e.seat (ltb-true e.seat count now.0))).0 (eq-eqb e.seat e.seat refl))
    (each_seated q count es now.1 (λ seat lt. (own_first seat (q seat) e es (each seat lt)).1))
