-- What the legs by their identifiers stand for, and how a change of an attempt changes them.
use Rattle.std.proofs.Common.{◌≡◌, ℕ, zero, suc, ◌+◌, ◌<◌, Bool, true, false, cond, not, ◌&&◌, ◌||◌, Some, None, Option, List, [], ◌∷◌, ◌++◌, length, take, drop, get_or, arith, ap, refl, sym, subst, ◌∙◌, is_some, MatchOption, Result, Ok, Err, OnErr}
use Rattle.std.specs.Prelude.{nat_eq}
use Rattle.std.specs.Cmp.{unsigned_tied}
use Rattle.std.specs.FinMap as map
use Rattle.std.specs.FinSet as set
use Rattle.std.specs.HashMap.{HashMap, get}
use Rattle.std.specs.List.{remove}
use Rattle.std.specs.Map.{lookup}
use Rattle.std.specs.Option.{option_or}
use Rattle.std.specs.Ordering.{nat_cmp, eq_by_cmp}
use Rattle.std.proofs.lemmas.Bool.{false≢true, eqb-true, eq-eqb}
use Rattle.std.proofs.lemmas.Cmp.{nat_cmp_total, nat_eq_equiv}
use Rattle.id_pool.specs.Identifiers.{Identifiers, AllUsed, IsFirstFree}
use Rattle.id_pool.proofs.Theorems.{first_free_alike, all_used_alike}
use Rattle.timeout_queue.specs.declared.key.Key.{Key}
use Rattle.leg_index.specs.declared.fresh.Fresh.{Fresh}
use Rattle.leg_index.specs.Flights.{LegsById, IsFlightIndex, row_entries, leg_in_row, front_leg, leg_by_id, AreDistinct, NoneByBoth, AreTaken, StandOnce, Gains, Loses, SameLegs, IsFreshAt}

-- ---- an answer of two

some≢none : (leg : Key) → Some leg ≡ None → ⊥
some≢none leg same = false≢true (sym (ap is_some same))

-- where the first has a leg, the second has none
no_second : (a b : Option Key) (leg : Key) → (is_some a && is_some b) ≡ false → a ≡ Some leg → b ≡ None
no_second a None leg apart is = refl
no_second None (Some k) leg apart is = absurd (some≢none leg (sym is))
no_second (Some j) (Some k) leg apart is = absurd (false≢true (sym apart))

second_of : (a b : Option Key) → a ≡ None → option_or a b ≡ b
second_of a b none = ap (λ x. option_or x b) none

neither : (a b : Option Key) → option_or a b ≡ None → (a ≡ None) × (b ≡ None)
neither None b none = (refl, none)
neither (Some k) b none = absurd (some≢none k none)

no_leg : (a : Option Key) → is_some a ≡ false → a ≡ None
no_leg None is = refl
no_leg (Some k) is = absurd (false≢true (sym is))

-- ---- functions from identifiers to legs

abbrev both_of : (ℕ → Option Key) → (ℕ → Option Key) → ℕ → Option Key
both_of a b q = option_or (a q) (b q)

-- by whether the other identifier is this one
module _ (id : ℕ) (P : ℕ → Bool → Type 0) (same : P id true) (other : (q : ℕ) → P q false) where
  by_id : (q : ℕ) → P q (nat_eq id q)
  by_id q = by (nat_eq id q) refl
    where
      by : (t : Bool) → nat_eq id q ≡ t → P q t
      by true is = subst (λ k. P k true) (eqb-true id q is) same
      by false is = other q

module _ (id : ℕ) (a b a' b' : ℕ → Option Key) (apart : NoneByBoth a b) where
  -- an identifier without a leg has one by the first from now on
  gains_first : (leg : Key) → b id ≡ None → Gains id leg a a' → SameLegs b b' → Gains id leg (both_of a b) (both_of a' b') × NoneByBoth a' b'
  gains_first leg none put stays = (
    λ q. ap (λ x. option_or x (b' q)) (put q) ∙ ap (option_or (cond (nat_eq id q) (Some leg) (a q))) (stays q)
        ∙ by_id id (λ q t. option_or (cond t (Some leg) (a q)) (b q) ≡ cond t (Some leg) (option_or (a q) (b q))) refl (λ q. refl) q,
    λ q. ap (λ x. is_some x && is_some (b' q)) (put q) ∙ ap (λ x. is_some (cond (nat_eq id q) (Some leg) (a q)) && is_some x) (stays q)
        ∙ by_id id (λ q t. (is_some (cond t (Some leg) (a q)) && is_some (b q)) ≡ false) (ap is_some none) apart q,
  )

  -- it has none by either
  loses_both : Loses id a a' → Loses id b b' → Loses id (both_of a b) (both_of a' b') × NoneByBoth a' b'
  loses_both gone left = (
    λ q. ap (λ x. option_or x (b' q)) (gone q) ∙ ap (option_or (cond (nat_eq id q) None (a q))) (left q)
        ∙ by_id id (λ q t. option_or (cond t None (a q)) (cond t None (b q)) ≡ cond t None (option_or (a q) (b q))) refl (λ q. refl) q,
    λ q. ap (λ x. is_some x && is_some (b' q)) (gone q) ∙ ap (λ x. is_some (cond (nat_eq id q) None (a q)) && is_some x) (left q)
        ∙ by_id id (λ q t. (is_some (cond t None (a q)) && is_some (cond t None (b q))) ≡ false) refl apart q,
  )

-- an identifier that has no leg loses none
pub none_lost : (id : ℕ) (a : ℕ → Option Key) → a id ≡ None → Loses id a a
none_lost id a none = by_id id (λ q t. a q ≡ cond t None (a q)) none (λ q. refl)

-- ---- attempts that aren't in the map yet

-- one more, behind them
leg_in_row-push : (q : ℕ) (fs : List Fresh) (f : Fresh) → leg_in_row q (fs ++ f ∷ []) ≡ option_or (leg_in_row q fs) (cond (nat_eq q f.id) (Some f.leg) None)
leg_in_row-push q [] f = refl
leg_in_row-push q (g ∷ fs) f = ap (cond (nat_eq q g.id) (Some g.leg)) (leg_in_row-push q fs f) ∙ by (nat_eq q g.id)
  where
    by : (t : Bool) → cond t (Some g.leg) (option_or (leg_in_row q fs) (cond (nat_eq q f.id) (Some f.leg) None)) ≡ option_or (cond t (Some g.leg) (leg_in_row q fs)) (cond (nat_eq q f.id) (Some f.leg) None)
    by true = refl
    by false = refl

gains_pushed : (fs : List Fresh) (f : Fresh) → leg_in_row f.id fs ≡ None → Gains f.id f.leg (λ q. leg_in_row q fs) (λ q. leg_in_row q (fs ++ f ∷ []))
gains_pushed fs f none q =
    leg_in_row-push q fs f ∙ ap (λ t. option_or (leg_in_row q fs) (cond t (Some f.leg) None)) (nat_eq_equiv.symm q f.id)
    ∙ by_id f.id (λ q t. option_or (leg_in_row q fs) (cond t (Some f.leg) None) ≡ cond t (Some f.leg) (leg_in_row q fs)) (second_of (leg_in_row f.id fs) (Some f.leg) none) (λ q. none_behind (leg_in_row q fs)) q
  where
    none_behind : (a : Option Key) → option_or a None ≡ a
    none_behind None = refl
    none_behind (Some k) = refl

-- an identifier without a leg is another one than the first's, and has none behind it
past_first : (t : Bool) (leg : Key) (a : Option Key) → cond t (Some leg) a ≡ None → (t ≡ false) × (a ≡ None)
past_first true leg a none = absurd (some≢none leg none)
past_first false leg a none = (refl, none)

distinct_pushed : (fs : List Fresh) (f : Fresh) → AreDistinct fs → leg_in_row f.id fs ≡ None → AreDistinct (fs ++ f ∷ [])
distinct_pushed [] f distinct none = (refl, tt)
distinct_pushed (g ∷ fs) f distinct none =
    let past = past_first (nat_eq f.id g.id) g.leg (leg_in_row f.id fs) none in (
      leg_in_row-push g.id fs f ∙ ap (λ a. option_or a (cond (nat_eq g.id f.id) (Some f.leg) None)) distinct.0
          ∙ ap (λ t. cond t (Some f.leg) None) (nat_eq_equiv.symm g.id f.id ∙ past.0),
      distinct_pushed fs f distinct.1 past.1,
    )

-- without the first
loses_first : (f : Fresh) (fs : List Fresh) → AreDistinct (f ∷ fs) → Loses f.id (λ q. leg_in_row q (f ∷ fs)) (λ q. leg_in_row q fs)
loses_first f fs distinct q =
    by_id f.id (λ q t. leg_in_row q fs ≡ cond t None (cond t (Some f.leg) (leg_in_row q fs))) distinct.0 (λ q. refl) q
    ∙ ap (λ t. cond (nat_eq f.id q) None (cond t (Some f.leg) (leg_in_row q fs))) (nat_eq_equiv.symm f.id q)

-- where an identifier is found, there is its leg
pub leg_found : (id : ℕ) (fs : List Fresh) (index : ℕ) → IsFreshAt id fs index → (d : Fresh) → Some (get_or fs index d).leg ≡ leg_in_row id fs
leg_found id [] index at d = absurd (let inside = at.inside in omega arith)
leg_found id (f ∷ fs) zero at d = sym (ap (λ t. cond t (Some f.leg) (leg_in_row id fs)) (eq-eqb id f.id (at.here d)))
leg_found id (f ∷ fs) (suc i) at d =
    let past = past_first (nat_eq id f.id) f.leg (leg_in_row id (take i fs)) at.before in
    leg_found id fs i (record { inside = let inside = at.inside in omega arith; here = at.here; before = past.1 }) d
    ∙ sym (ap (λ t. cond t (Some f.leg) (leg_in_row id fs)) past.0)

-- and without it the others stay
pub loses_found : (id : ℕ) (fs : List Fresh) (index : ℕ) → AreDistinct fs → IsFreshAt id fs index → Loses id (λ q. leg_in_row q fs) (λ q. leg_in_row q (remove fs index))
loses_found id [] index distinct at q = absurd (let inside = at.inside in omega arith)
loses_found id (f ∷ fs) zero distinct at q = subst (λ k. Loses k (λ q. leg_in_row q (f ∷ fs)) (λ q. leg_in_row q fs)) (sym (at.here f)) (loses_first f fs distinct) q
loses_found id (f ∷ fs) (suc i) distinct at q =
    let past = past_first (nat_eq id f.id) f.leg (leg_in_row id (take i fs)) at.before in
    let rest = loses_found id fs i distinct.1 (record { inside = let inside = at.inside in omega arith; here = at.here; before = past.1 }) in
    ap (cond (nat_eq q f.id) (Some f.leg)) (rest q)
    ∙ by_id id (λ q t. cond (nat_eq q f.id) (Some f.leg) (cond t None (leg_in_row q fs)) ≡ cond t None (cond (nat_eq q f.id) (Some f.leg) (leg_in_row q fs)))
    (ap (λ t. cond t (Some f.leg) None) past.0) (λ q. refl) q

pub distinct_found : (id : ℕ) (fs : List Fresh) (index : ℕ) → AreDistinct fs → IsFreshAt id fs index → AreDistinct (remove fs index)
distinct_found id [] index distinct at = absurd (let inside = at.inside in omega arith)
distinct_found id (f ∷ fs) zero distinct at = distinct.1
distinct_found id (f ∷ fs) (suc i) distinct at =
    let past = past_first (nat_eq id f.id) f.leg (leg_in_row id (take i fs)) at.before in
    let rest : IsFreshAt id fs i = record { inside = let inside = at.inside in omega arith; here = at.here; before = past.1 } in
    (loses_found id fs i distinct.1 rest f.id ∙ ap (cond (nat_eq id f.id) None) distinct.0 ∙ always_none (nat_eq id f.id), distinct_found id fs i distinct.1 rest)
  where
    always_none : (t : Bool) → cond {A = Option Key} t None None ≡ None
    always_none true = refl
    always_none false = refl

-- an identifier that the next attempt doesn't have, and none before it, isn't found up to it
module _ (id : ℕ) (d : Fresh) (other : nat_eq id d.id ≡ false) where
  not_next : (fs : List Fresh) (index : ℕ) → index < length fs → d ≡ get_or fs index d → leg_in_row id (take index fs) ≡ None → leg_in_row id (take (suc index) fs) ≡ None
  not_next [] index inside is before = absurd (omega (arith, inside))
  not_next (f ∷ fs) zero inside is before = ap (λ g. cond (nat_eq id g.id) (Some f.leg) None) (sym is) ∙ ap (λ t. cond t (Some f.leg) None) other
  not_next (f ∷ fs) (suc i) inside is before =
      let past = past_first (nat_eq id f.id) f.leg (leg_in_row id (take i fs)) before in
      ap (λ t. cond t (Some f.leg) (leg_in_row id (take (suc i) fs))) past.0 ∙ not_next fs i (omega (arith, inside)) is past.1

  pub not_yet : (fs : List Fresh) (index : ℕ) → index < length fs → d ≡ get_or fs index d → leg_in_row id (take index fs) ≡ None → leg_in_row id (take (index + 1) fs) ≡ None
  not_yet fs index inside is before =
      let next : suc index ≡ index + 1 = omega arith in
      subst (λ n. leg_in_row id (take n fs) ≡ None) next (not_next fs index inside is before)

-- the first has the identifier
first_has : (f : Fresh) (leg : Key) (t : Bool) → Some leg ≡ cond t (Some f.leg) None → t ≡ true
first_has f leg true is = refl
first_has f leg false is = absurd (some≢none leg is)

pub first_found : (id : ℕ) (fs : List Fresh) (leg : Key) → Some leg ≡ front_leg id fs → leg_in_row id fs ≡ Some leg
first_found id [] leg is = absurd (some≢none leg is)
first_found id (f ∷ fs) leg is =
    let has = first_has f leg (nat_eq id f.id) is in
    ap (λ t. cond t (Some f.leg) (leg_in_row id fs)) has ∙ sym (is ∙ ap (λ t. cond t (Some f.leg) None) has)

-- ---- what they stand for

find-entries : {S : Type 0} (fs : List Fresh) (legs : HashMap ℕ Key S) (q : ℕ) → map.find nat_cmp q (row_entries fs ++ legs.entries) ≡ leg_by_id fs legs q
find-entries [] legs q = find-lookup legs.entries
  where
    find-lookup : (es : List (ℕ × Key)) → map.find nat_cmp q es ≡ lookup (nat_eq q) es
    find-lookup [] = refl
    find-lookup (e ∷ es) = ap (λ b. cond b (Some e.1) (map.find nat_cmp q es)) (unsigned_tied q e.0) ∙ ap (cond (nat_eq q e.0) (Some e.1)) (find-lookup es)
find-entries (f ∷ fs) legs q =
    ap (λ b. cond b (Some f.leg) (map.find nat_cmp q (row_entries fs ++ legs.entries))) (unsigned_tied q f.id)
    ∙ ap (cond (nat_eq q f.id) (Some f.leg)) (find-entries fs legs q) ∙ by (nat_eq q f.id)
  where
    by : (t : Bool) → cond t (Some f.leg) (leg_by_id fs legs q) ≡ option_or (cond t (Some f.leg) (leg_in_row q fs)) (get nat_eq legs q)
    by true = refl
    by false = refl

tied : (id q : ℕ) → eq_by_cmp nat_cmp q id ≡ nat_eq id q
tied id q = unsigned_tied q id ∙ nat_eq_equiv.symm q id

module _ {S : Type 0} (fs : List Fresh) (legs : HashMap ℕ Key S) (seen : LegsById) (is : map.from_entries (row_entries fs ++ legs.entries) ≡ seen) where
  -- the map has these legs
  pub get-seen : (q : ℕ) → map.get seen q ≡ leg_by_id fs legs q
  get-seen q = ap (λ m. map.get m q) (sym is) ∙ map.get-from_entries nat_cmp_total (row_entries fs ++ legs.entries) q ∙ find-entries fs legs q

  module _ (pool : Identifiers) (taken : AreTaken pool (leg_by_id fs legs)) where
    -- and those identifiers that the pool has
    same_ids : (q : ℕ) → set.contains pool q ≡ map.contains_key seen q
    same_ids q = taken q ∙ ap is_some (sym (get-seen q))

    pub first_free_seen : (word : ℕ) (r : Option ℕ) → MatchOption r (AllUsed (set.contains pool)) (IsFirstFree (set.contains pool) word)
        → MatchOption r (AllUsed (map.contains_key seen)) (IsFirstFree (map.contains_key seen) word)
    first_free_seen word None all = all_used_alike (set.contains pool) (map.contains_key seen) (λ q _. same_ids q) all
    first_free_seen word (Some id) first = first_free_alike (set.contains pool) (map.contains_key seen) (λ q _. same_ids q) word id first

  -- others that some map has stand for it
  module _ (new : List Fresh) (other : HashMap ℕ Key S) where
    seen_by_get : (after : LegsById) → ((q : ℕ) → leg_by_id new other q ≡ map.get after q) → map.from_entries (row_entries new ++ other.entries) ≡ after
    seen_by_get after same = map.same_map nat_cmp_total map.nat_cmp-IsAntisymmetric _ _ (λ q.
        map.get-from_entries nat_cmp_total (row_entries new ++ other.entries) q ∙ find-entries new other q ∙ same q)

    pub seen_same : SameLegs (leg_by_id fs legs) (leg_by_id new other) → map.from_entries (row_entries new ++ other.entries) ≡ seen
    seen_same same = seen_by_get seen (λ q. same q ∙ sym (get-seen q))

    pub seen_gains : (id : ℕ) (leg : Key) → Gains id leg (leg_by_id fs legs) (leg_by_id new other) → map.from_entries (row_entries new ++ other.entries) ≡ map.insert seen id leg
    seen_gains id leg gains = seen_by_get (map.insert seen id leg) (λ q.
        gains q ∙ ap (cond (nat_eq id q) (Some leg)) (sym (get-seen q))
        ∙ ap (λ b. cond b (Some leg) (map.get seen q)) (sym (tied id q)) ∙ sym (map.get-insert nat_cmp_total seen id leg q))

    pub seen_loses : (id : ℕ) → Loses id (leg_by_id fs legs) (leg_by_id new other) → map.from_entries (row_entries new ++ other.entries) ≡ map.remove seen id
    seen_loses id loses = seen_by_get (map.remove seen id) (λ q.
        loses q ∙ ap (cond (nat_eq id q) None) (sym (get-seen q))
        ∙ ap (λ b. cond b None (map.get seen q)) (sym (tied id q)) ∙ sym (map.get-remove nat_cmp_total seen id q))

-- ---- the pool beside them

module _ (pool : Identifiers) (old new : ℕ → Option Key) (taken : AreTaken pool old) where
  -- an identifier is taken with its leg
  pub taken_gains : (id : ℕ) (leg : Key) → Gains id leg old new → AreTaken (set.insert pool id) new
  taken_gains id leg gains q =
      set.contains-insert nat_cmp_total pool id q
      ∙ ap (λ b. b || set.contains pool q) (tied id q) ∙ ap (λ b. nat_eq id q || b) (taken q)
      ∙ one_more (nat_eq id q) (old q) ∙ ap is_some (sym (gains q))
    where
      one_more : (b : Bool) (was : Option Key) → (b || is_some was) ≡ is_some (cond b (Some leg) was)
      one_more true was = refl
      one_more false was = refl

  -- one is given back with its leg
  pub taken_loses : (id : ℕ) → Loses id old new → AreTaken (set.remove pool id) new
  taken_loses id loses q =
      set.contains-remove nat_cmp_total pool id q
      ∙ ap (λ b. not b && set.contains pool q) (tied id q) ∙ ap (λ b. not (nat_eq id q) && b) (taken q)
      ∙ one_less (nat_eq id q) (old q) ∙ ap is_some (sym (loses q))
    where
      one_less : (b : Bool) (was : Option Key) → (not b && is_some was) ≡ is_some (cond b None was)
      one_less true was = refl
      one_less false was = refl

  -- one that isn't taken has no leg
  pub free_none : (id : ℕ) → set.contains pool id ≡ false → old id ≡ None
  free_none id free = no_leg (old id) (sym (taken id) ∙ free)

-- ---- all three

module _ {S : Type 0} (fs : List Fresh) (legs : HashMap ℕ Key S) (once : StandOnce fs legs) where
  -- an attempt begins
  pub pushed : (f : Fresh) → leg_by_id fs legs f.id ≡ None → (new : List Fresh) → new ≡ fs ++ f ∷ [] → Gains f.id f.leg (leg_by_id fs legs) (leg_by_id new legs) × StandOnce new legs
  pushed f none new is = subst (λ n. Gains f.id f.leg (leg_by_id fs legs) (leg_by_id n legs) × StandOnce n legs) (sym is)
      (let free = neither (leg_in_row f.id fs) (get nat_eq legs f.id) none in
      let both = gains_first f.id (λ q. leg_in_row q fs) (get nat_eq legs) (λ q. leg_in_row q (fs ++ f ∷ [])) (get nat_eq legs) once.apart f.leg free.1 (gains_pushed fs f free.0) (λ q. refl) in
      (both.0, record { distinct = distinct_pushed fs f once.distinct free.0; apart = both.1 }))

  -- the first ends
  pub popped : (id : ℕ) (leg : Key) → Some leg ≡ front_leg id fs → (new : List Fresh) → new ≡ drop 1 fs → Loses id (leg_by_id fs legs) (leg_by_id new legs) × StandOnce new legs
  popped id leg is new rest = subst (λ n. Loses id (leg_by_id fs legs) (leg_by_id n legs) × StandOnce n legs) (sym rest) (by fs once is)
    where
      by : (fs : List Fresh) → StandOnce fs legs → Some leg ≡ front_leg id fs → Loses id (leg_by_id fs legs) (leg_by_id (drop 1 fs) legs) × StandOnce (drop 1 fs) legs
      by [] once is = absurd (some≢none leg is)
      by (f ∷ fs) once is =
          let same = eqb-true id f.id (first_has f leg (nat_eq id f.id) is) in
          let gone = subst (λ k. Loses k (λ q. leg_in_row q (f ∷ fs)) (λ q. leg_in_row q fs)) (sym same) (loses_first f fs once.distinct) in
          let free = no_second (leg_in_row id (f ∷ fs)) (get nat_eq legs id) leg (once.apart id) (first_found id (f ∷ fs) leg is) in
          let both = loses_both id (λ q. leg_in_row q (f ∷ fs)) (get nat_eq legs) (λ q. leg_in_row q fs) (get nat_eq legs) once.apart gone (none_lost id (get nat_eq legs) free) in
          (both.0, record { distinct = once.distinct.1; apart = both.1 })

-- what holds always holds where there is an error
pub on_err_always : {T E P : Type 0} (r : Result T E) → P → OnErr r P
on_err_always (Ok x) p = tt
on_err_always (Err e) p = p

-- a map that has the same legs serves as well
module _ {S : Type 0} (fs : List Fresh) (legs other : HashMap ℕ Key S) (same : SameLegs (get nat_eq legs) (get nat_eq other)) where
  pub same_over : SameLegs (leg_by_id fs legs) (leg_by_id fs other)
  same_over q = ap (option_or (leg_in_row q fs)) (same q)

  pub once_over : StandOnce fs legs → StandOnce fs other
  once_over once = record { distinct = once.distinct; apart = λ q. ap (λ x. is_some (leg_in_row q fs) && is_some x) (same q) ∙ once.apart q }

  -- for an attempt that begins too
  pub pushed_over : StandOnce fs legs → (f : Fresh) → leg_by_id fs legs f.id ≡ None → (new : List Fresh) → new ≡ fs ++ f ∷ [] → Gains f.id f.leg (leg_by_id fs legs) (leg_by_id new other) × StandOnce new other
  pushed_over once f none new is =
      let put = pushed fs other (once_over once) f (same_over f.id ∙ none) new is in
      (λ q. put.0 q ∙ ap (cond (nat_eq f.id q) (Some f.leg)) (same_over q), put.1)

module _ {S : Type 0} (fs new : List Fresh) (legs other : HashMap ℕ Key S) (pool after : Identifiers) (indexed : IsFlightIndex fs legs pool) (once : StandOnce new other) where
  pub indexed_gains : (id : ℕ) (leg : Key) → after ≡ set.insert pool id → Gains id leg (leg_by_id fs legs) (leg_by_id new other) → IsFlightIndex new other after
  indexed_gains id leg is gains = record {
    taken = subst (λ p. AreTaken p (leg_by_id new other)) (sym is) (taken_gains pool (leg_by_id fs legs) (leg_by_id new other) indexed.taken id leg gains);
    once = once;
  }

  pub indexed_same : after ≡ pool → SameLegs (leg_by_id fs legs) (leg_by_id new other) → IsFlightIndex new other after
  indexed_same is same = record {
    taken = λ q. ap (λ p. set.contains p q) is ∙ indexed.taken q ∙ ap is_some (sym (same q));
    once = once;
  }

  pub indexed_loses : (id : ℕ) → after ≡ set.remove pool id → Loses id (leg_by_id fs legs) (leg_by_id new other) → IsFlightIndex new other after
  indexed_loses id is loses = record {
    taken = subst (λ p. AreTaken p (leg_by_id new other)) (sym is) (taken_loses pool (leg_by_id fs legs) (leg_by_id new other) indexed.taken id loses);
    once = once;
  }

-- no attempt, no leg and no identifier
pub none_indexed : {S : Type 0} (fs : List Fresh) (legs : HashMap ℕ Key S) (pool : Identifiers) → fs ≡ [] → legs.entries ≡ [] → pool ≡ set.empty → IsFlightIndex fs legs pool
none_indexed fs legs pool none empty free = record {
  taken = λ q. ap (λ s. set.contains s q) free ∙ set.contains-empty nat_cmp q
      ∙ ap (λ es. is_some (lookup (nat_eq q) es)) (sym empty) ∙ ap (λ f. is_some (option_or (leg_in_row q f) (get nat_eq legs q))) (sym none);
  once = record {
    distinct = subst AreDistinct (sym none) tt;
    apart = λ q. ap (λ f. is_some (leg_in_row q f) && is_some (get nat_eq legs q)) none;
  };
}
