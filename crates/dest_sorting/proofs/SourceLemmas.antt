-- The order of sources for one destination is a strict partial order, so among the sources of a family there is one that
-- no other is before.
use Rattle.std.proofs.Common.{◌≡◌, ℕ, ◌<◌, ◌≤◌, Bool, true, false, not, ◌&&◌, ◌||◌, ltb, leb, List, [], ◌∷◌, is_some, ◌⊎◌, eqb, le-ltb, refl, sym, ap, subst, ◌∙◌, arith, inl, inr, lt-ltb, true≢false}
use Rattle.std.specs.Prelude.{find}
use Rattle.std.specs.List.{list_any}
use Rattle.std.specs.Cmp.{IsStrictWeakOrder}
use Rattle.std.proofs.lemmas.Bool.{cases_Bool, both_ways, or_cases, or_parts, or_left, or_right, or_from, and_parts, and_from, and_right, not-true, not_from_false, true_from_ne_false, false_from_ne_true, ltb-true, leb-true, cases_lt, le-leb, eqb-true}
use Rattle.net_addr.specs.declared.addr.Addr.{Addr}
use Rattle.net_addr.specs.declared.addr.Addr.TheVariants.{V4, V6}
use Rattle.net_addr.specs.Scope.{scope}
use Rattle.dest_sorting.specs.Policy.{label}
use Rattle.dest_sorting.specs.Order.{favoured, same, same_family, is_native, shared, is_destination, has_better_scope, has_its_label, is_closer, source_before, is_chosen, source_of}

-- nothing is before itself, and what is before something is before all that this is before
record IsPartialOrder {X : Type 0} (lt : X → X → Bool) : Type 0 where
  apart : (x : X) → lt x x ≡ false
  chain : (x y z : X) → lt x y ≡ true → lt y z ≡ true → lt x z ≡ true

module _ {X : Type 0} (rule : X → X → Bool) (rules : List (X → X → Bool))
    (weak : IsStrictWeakOrder rule) (rest : IsPartialOrder (favoured rules)) where
  alone : (x : X) → rule x x ≡ false
  alone x = false_from_ne_true _ (λ h. both_ways _ (weak.one_way x x h) h)

  -- what the first rule, or those behind it, decide
  decided : (x y : X) → favoured (rule ∷ rules) x y ≡ true → (rule y x ≡ false) × ((rule x y ≡ true) ⊎ (favoured rules x y ≡ true))
  decided x y h = elim (or_cases (rule x y) (not (rule y x) && favoured rules x y) h) [
    | inl first ↦ (weak.one_way x y first, inl first)
    | inr behind ↦ let parts = and_parts (not (rule y x)) (favoured rules x y) behind in (not-true _ parts.0, inr parts.1)
  ]

  joined : (x y z : X) → rule y x ≡ false → rule z y ≡ false → (rule x y ≡ true) ⊎ (favoured rules x y ≡ true) → (rule y z ≡ true) ⊎ (favoured rules y z ≡ true)
      → favoured (rule ∷ rules) x z ≡ true
  joined x y z yx zy (inl xy) yz = or_left _ _ (true_from_ne_false _ (λ xz. both_ways _ (weak.chain x z y xz zy) xy))
  joined x y z yx zy (inr xy) (inl yz) = or_left _ _ (true_from_ne_false _ (λ xz. both_ways _ (weak.chain y x z yx xz) yz))
  joined x y z yx zy (inr xy) (inr yz) =
      or_right (rule x z) _ (and_from _ _ (not_from_false _ (weak.chain z y x zy yx)) (rest.chain x y z xy yz))

  -- a rule that ranks, before rules that order, orders
  ranked_first : IsPartialOrder (favoured (rule ∷ rules))
  ranked_first = record {
    apart = λ x. or_from _ _ (alone x) (and_right (not (rule x x)) _ (rest.apart x));
    chain = λ x y z xy yz. let a = decided x y xy in let b = decided y z yz in joined x y z a.0 b.0 a.1 b.1;
  }

-- to have something before not to have it
flag_one_way : (a b : Bool) → (a && not b) ≡ true → (b && not a) ≡ false
flag_one_way true true h = refl
flag_one_way true false h = refl
flag_one_way false true h = absurd (true≢false (sym h))
flag_one_way false false h = refl

flag_chain : (a b c : Bool) → (a && not b) ≡ false → (b && not c) ≡ false → (a && not c) ≡ false
flag_chain true true true g h = refl
flag_chain true true false g h = h
flag_chain true false c g h = absurd (true≢false g)
flag_chain false b c g h = refl

flag_ranks : {X : Type 0} (p : X → Bool) → IsStrictWeakOrder (λ s t. p s && not (p t))
flag_ranks p = record {
  one_way = λ s t. flag_one_way (p s) (p t);
  chain = λ s t u. flag_chain (p s) (p t) (p u);
}

-- of two scopes the smaller one that is not below the wanted one, else the greater one
nearer : ℕ → ℕ → ℕ → Bool
nearer want a b = (ltb a b && leb want a) || (ltb b a && ltb b want)

near_one_way : (want a b : ℕ) → nearer want a b ≡ true → nearer want b a ≡ false
unfolding nearer
near_one_way want a b h = grind arith

near_up : (want a b : ℕ) → a < b → want ≤ a → nearer want a b ≡ true
unfolding nearer
near_up want a b up fits = or_left _ _ (and_from _ _ (lt-ltb a b up) (le-leb want a fits))

near_down : (want a b : ℕ) → b < a → b < want → nearer want a b ≡ true
unfolding nearer
near_down want a b down short = or_right _ _ (and_from _ _ (lt-ltb b a down) (lt-ltb b want short))

near_chain : (want a b c : ℕ) → nearer want a b ≡ false → nearer want b c ≡ false → nearer want a c ≡ false
unfolding nearer
near_chain want a b c g h = false_from_ne_true _ (λ k. elim (or_cases (ltb a c && leb want a) (ltb c a && ltb c want) k) [
  | inl low ↦
      let parts = and_parts (ltb a c) (leb want a) low in
      let up : a < c = ltb-true a c parts.0 in
      let fits : want ≤ a = leb-true want a parts.1 in
      elim (cases_lt a b) [
        | inl ab ↦ both_ways _ g (near_up want a b ab fits)
        | inr ba ↦ elim (cases_lt b want) [
          | inl bw ↦ both_ways _ g (near_down want a b (omega arith) bw)
          | inr wb ↦ both_ways _ h (near_up want b c (omega arith) wb)
        ]
      ]
  | inr high ↦
      let parts = and_parts (ltb c a) (ltb c want) high in
      let down : c < a = ltb-true c a parts.0 in
      let short : c < want = ltb-true c want parts.1 in
      elim (cases_lt c b) [
        | inl cb ↦ both_ways _ h (near_down want b c cb short)
        | inr bc ↦ both_ways _ g (near_down want a b (omega arith) (omega arith))
      ]
])

scope_ranks : (dest : Addr) → IsStrictWeakOrder (has_better_scope dest)
unfolding nearer
scope_ranks dest = record {
  one_way = λ s t. near_one_way (scope dest) (scope s) (scope t);
  chain = λ s t u. near_chain (scope dest) (scope s) (scope t) (scope u);
}

-- the last rule alone
last_alone : (favours behind : Bool) → (favours || (not behind && false)) ≡ favours
last_alone true behind = refl
last_alone false true = refl
last_alone false false = refl

close_chain : (n a b c : Bool) (k l m : ℕ) → ((n && a && b) && ltb l k) ≡ true → ((n && b && c) && ltb m l) ≡ true → ((n && a && c) && ltb m k) ≡ true
close_chain n a b c k l m g h = grind arith

closer_orders : (dest : Addr) → IsPartialOrder (favoured (is_closer dest ∷ []))
closer_orders dest = record {
  apart = λ s. last_alone _ _ ∙ and_right _ _ (le-ltb (shared s dest) (shared s dest) (omega arith));
  chain = λ s t u g h. last_alone _ _ ∙ close_chain (is_native dest) (is_native s) (is_native t) (is_native u) (shared s dest) (shared t dest) (shared u dest)
      (sym (last_alone (is_closer dest s t) (is_closer dest t s)) ∙ g) (sym (last_alone (is_closer dest t u) (is_closer dest u t)) ∙ h);
}

-- the order of sources for a destination
sources_order : (dest : Addr) → IsPartialOrder (source_before dest)
sources_order dest =
    let eighth : List (Addr → Addr → Bool) = is_closer dest ∷ [] in
    let sixth : List (Addr → Addr → Bool) = has_its_label dest ∷ eighth in
    let second : List (Addr → Addr → Bool) = has_better_scope dest ∷ sixth in
    ranked_first (is_destination dest) second (flag_ranks (λ s. same s dest))
    (ranked_first (has_better_scope dest) sixth (scope_ranks dest)
    (ranked_first (has_its_label dest) eighth (flag_ranks (λ s. eqb (label s) (label dest))) (closer_orders dest)))

-- addresses that the test calls the same are equal
same_is : (s t : Addr) → same s t ≡ true → s ≡ t
same_is (V4 a) (V4 b) e = ap V4 (eqb-true a b e)
same_is (V6 a) (V6 b) e = ap V6 (eqb-true a b e)
same_is (V4 a) (V6 b) e = absurd (true≢false (sym e))
same_is (V6 a) (V4 b) e = absurd (true≢false (sym e))

-- no source is before itself
pub itself_not_before : (dest s t : Addr) → same t s ≡ true → (same_family dest t && source_before dest t s) ≡ false
itself_not_before dest s t is =
    and_right (same_family dest t) (source_before dest t s)
    (subst (λ u. source_before dest t u ≡ false) (same_is t s is) ((sources_order dest).apart t))

-- what passes a narrower test passes the wider one
none_narrower : {X : Type 0} (p q : X → Bool) → ((x : X) → p x ≡ true → q x ≡ true) → (xs : List X) → list_any q xs ≡ false → list_any p xs ≡ false
none_narrower p q wider [] none = refl
none_narrower p q wider (x ∷ xs) none =
    let parts = or_parts (q x) (list_any q xs) none in
    or_from _ _ (false_from_ne_true _ (λ h. both_ways _ parts.0 (wider x h))) (none_narrower p q wider xs parts.1)

-- the first of a list that passes is there where one passes
pub is_some-find : {X : Type 0} (p : X → Bool) (xs : List X) → is_some (find p xs) ≡ list_any p xs
is_some-find p [] = refl
is_some-find p (x ∷ xs) = elim (cases_Bool (p x)) [
  | inl passes ↦ rw passes refl
  | inr fails ↦ rw fails (is_some-find p xs)
]

module _ {X : Type 0} (f : X → Bool) (lt : X → X → Bool) (order : IsPartialOrder lt) where
  -- one of the list that passes, with none that passes before it
  record Least (xs : List X) : Type 0 where
    item : X
    passes : f item ≡ true
    first : list_any (λ t. f t && lt t item) xs ≡ false
    among : (q : X → Bool) → q item ≡ true → list_any q xs ≡ true

  least : (xs : List X) → list_any f xs ≡ true → Least xs
  least [] h = absurd (true≢false (sym h))
  least (x ∷ xs) h = elim (cases_Bool (list_any f xs)) [
    | inl some ↦
        let m = least xs some in
        elim (cases_Bool (f x && lt x m.item)) [
          | inl before ↦
              let parts = and_parts (f x) (lt x m.item) before in
              record {
                item = x;
                passes = parts.0;
                first = or_from _ _ (and_right (f x) _ (order.apart x))
                    (none_narrower (λ t. f t && lt t x) (λ t. f t && lt t m.item)
                    (λ t k. let here = and_parts (f t) (lt t x) k in and_from _ _ here.0 (order.chain t x m.item here.1 parts.1)) xs m.first);
                among = λ q k. or_left _ _ k;
              }
          | inr behind ↦ record {
            item = m.item;
            passes = m.passes;
            first = or_from _ _ behind m.first;
            among = λ q k. or_right (q x) _ (m.among q k);
          }
        ]
    | inr none ↦ record {
      item = x;
      passes = elim (or_cases (f x) (list_any f xs) h) [ inl here ↦ here | inr there ↦ absurd (both_ways _ none there) ];
      first = or_from _ _ (and_right (f x) _ (order.apart x)) (none_narrower (λ t. f t && lt t x) f (λ t k. (and_parts (f t) (lt t x) k).0) xs none);
      among = λ q k. or_left _ _ k;
    }
  ]

  -- one passes with none before it exactly where one passes
  any_least : (xs : List X) → list_any (λ s. f s && not (list_any (λ t. f t && lt t s) xs)) xs ≡ list_any f xs
  any_least xs = elim (cases_Bool (list_any f xs)) [
    | inl some ↦ let m = least xs some in m.among _ (and_from _ _ m.passes (not_from_false _ m.first)) ∙ sym some
    | inr none ↦ none_narrower _ f (λ s k. (and_parts (f s) _ k).0) xs none ∙ sym none
  ]

-- a destination has a source exactly where a source has its family
pub is_some-source_of : (sources : List Addr) (dest : Addr) → is_some (source_of sources dest) ≡ list_any (same_family dest) sources
is_some-source_of sources dest = is_some-find (is_chosen dest sources) sources ∙ any_least (same_family dest) (source_before dest) (sources_order dest) sources
