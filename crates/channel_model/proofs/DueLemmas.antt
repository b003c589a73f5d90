-- The first of some deadlines is the same in whatever order they stand.
use Rattle.std.proofs.Common.{◌≡◌, ◌∙◌, ℕ, ◌+◌, ◌≤◌, Bool, true, false, List, [], ◌∷◌, ◌++◌, Some, refl, ap, sym, subst, map, cond, arith, eqb-true, eq-eqb, true≢false}
use Rattle.std.proofs.lemmas.Bool.{and_from, and_parts, le-ltb, ltb-false, ltb-true, or_parts}
use Rattle.std.specs.Prelude.{nat_lt, ◌&&◌, ◌==◌, ◌||◌}
use Rattle.channel_model.proofs.FlightLemmas.{is_leg-itself, is_leg-says}
use Rattle.channel_model.specs.Lawful.{Due, is_before, is_lesser_leg, least, least_due}
use Rattle.channel_model.specs.Legs.{is_leg}
use Rattle.channel_model.specs.AsMany.{HaveAsMany, how_many}

-- the one isn't before the other
record NotBefore (a b : Due) : Type 0 where
  later : b.at ≤ a.at
  greater : a.at ≡ b.at → b.leg.request ≤ a.leg.request
  number : a.at ≡ b.at → a.leg.request ≡ b.leg.request → b.leg.number ≤ a.leg.number

-- a test of two numbers and one of what follows
lex-false : (x y : ℕ) (p : Bool) → (nat_lt x y || ((x == y) && p)) ≡ false → (y ≤ x) × (x ≡ y → p ≡ false)
lex-false x y p e =
    let parts = or_parts (nat_lt x y) ((x == y) && p) e in
    (ltb-false x y parts.0, λ same. subst (λ b. (b && p) ≡ false) (eq-eqb x y same) parts.1)

not_before : (a b : Due) → is_before a b ≡ false → NotBefore a b
not_before a b e =
    let outer = lex-false a.at b.at (is_lesser_leg a.leg b.leg) e in
    record {
      later = outer.0;
      greater = λ same. (lex-false a.leg.request b.leg.request (nat_lt a.leg.number b.leg.number) (outer.1 same)).0;
      number = λ same request. ltb-false a.leg.number b.leg.number ((lex-false a.leg.request b.leg.request (nat_lt a.leg.number b.leg.number) (outer.1 same)).1 request);
    }

lex-from : (x y : ℕ) (p : Bool) → y ≤ x → (x ≡ y → p ≡ false) → (nat_lt x y || ((x == y) && p)) ≡ false
lex-from x y p least rest = by_test (nat_lt x y) (x == y) refl refl
  where
    by_test : (b c : Bool) → nat_lt x y ≡ b → (x == y) ≡ c → (b || (c && p)) ≡ false
    by_test true c e f = absurd (omega (arith, least, ltb-true x y e))
    by_test false true e f = rest (eqb-true x y f)
    by_test false false e f = refl

before_from : (a b : Due) → NotBefore a b → is_before a b ≡ false
before_from a b h =
    lex-from a.at b.at (is_lesser_leg a.leg b.leg) h.later (λ same. lex-from a.leg.request b.leg.request (nat_lt a.leg.number b.leg.number) (h.greater same) (λ request. le-ltb a.leg.number b.leg.number (h.number same request)))

trans : (a b c : Due) → NotBefore a b → NotBefore b c → NotBefore a c
trans a b c h k = record {
  later = omega (arith, h.later, k.later);
  greater = λ same.
      let ab : a.at ≡ b.at = omega (arith, h.later, k.later, same) in
      let bc : b.at ≡ c.at = omega (arith, h.later, k.later, same) in
      omega (arith, h.greater ab, k.greater bc);
  number = λ same request.
      let ab : a.at ≡ b.at = omega (arith, h.later, k.later, same) in
      let bc : b.at ≡ c.at = omega (arith, h.later, k.later, same) in
      let rab : a.leg.request ≡ b.leg.request = omega (arith, h.greater ab, k.greater bc, request) in
      let rbc : b.leg.request ≡ c.leg.request = omega (arith, h.greater ab, k.greater bc, request) in
      omega (arith, h.number ab rab, k.number bc rbc);
}

-- what isn't before b, which isn't before c, isn't before c
none_before : (a b c : Due) → is_before a b ≡ false → is_before b c ≡ false → is_before a c ≡ false
none_before a b c h k = before_from a c (trans a b c (not_before a b h) (not_before b c k))

lex-true : (x y : ℕ) (p : Bool) → (nat_lt x y || ((x == y) && p)) ≡ true → (x ≤ y) × (x ≡ y → p ≡ true)
lex-true x y p e = by_test (nat_lt x y) (x == y) refl refl e
  where
    by_test : (b c : Bool) → nat_lt x y ≡ b → (x == y) ≡ c → (b || (c && p)) ≡ true → (x ≤ y) × (x ≡ y → p ≡ true)
    by_test true c is f e = let less = ltb-true x y is in (omega (arith, less), λ same. absurd (omega (arith, less, same)))
    by_test false true is f e = (omega (arith, eqb-true x y f), λ same. e)
    by_test false false is f e = absurd (true≢false (sym e))

-- what is before another isn't behind it
one_way : (a b : Due) → is_before a b ≡ true → is_before b a ≡ false
one_way a b e =
    let outer = lex-true a.at b.at (is_lesser_leg a.leg b.leg) e in
    before_from b a (record {
      later = outer.0;
      greater = λ same. (lex-true a.leg.request b.leg.request (nat_lt a.leg.number b.leg.number) (outer.1 (sym same))).0;
      number = λ same request. let less = ltb-true a.leg.number b.leg.number ((lex-true a.leg.request b.leg.request (nat_lt a.leg.number b.leg.number) (outer.1 (sym same))).1 (sym request)) in omega (arith, less);
    })

-- the two are one
is_same : Due → Due → Bool
is_same a b = (a.at == b.at) && is_leg a.leg b.leg.request b.leg.number

same_says : (a b : Due) → is_same a b ≡ true → a ≡ b
unfolding is_same
same_says a b e =
    let parts = and_parts (a.at == b.at) (is_leg a.leg b.leg.request b.leg.number) e in
    let at : a.at ≡ b.at = eqb-true a.at b.at parts.0 in
    let leg : a.leg ≡ b.leg = is_leg-says a.leg b.leg.request b.leg.number parts.1 in
    λ k. record { at = at k; leg = leg k }

same_itself : (a : Due) → is_same a a ≡ true
unfolding is_same
same_itself a = and_from _ _ (eq-eqb a.at a.at refl) (is_leg-itself a.leg)

antisym : (a b : Due) → is_before a b ≡ false → is_before b a ≡ false → a ≡ b
antisym a b h k =
    let x = not_before a b h in
    let y = not_before b a k in
    let at : a.at ≡ b.at = omega (arith, x.later, y.later) in
    let request : a.leg.request ≡ b.leg.request = omega (arith, x.greater at, y.greater (sym at)) in
    let number : a.leg.number ≡ b.leg.number = omega (arith, x.number at request, y.number (sym at) (sym request)) in
    λ i. record { at = at i; leg = record { request = request i; number = number i } }

-- the first stands in the list
least_in : (best : Due) (list : List Due) → 1 ≤ how_many (is_same (least_due best list)) (best ∷ list)
least_in best [] = rw (same_itself best) (omega arith)
least_in best (next ∷ rest) = by_test (is_before next best) (least_in next rest) (least_in best rest)
  where
    by_test : (b : Bool) → 1 ≤ how_many (is_same (least_due next rest)) (next ∷ rest) → 1 ≤ how_many (is_same (least_due best rest)) (best ∷ rest) → 1 ≤ how_many (is_same (least_due (cond b next best) rest)) (best ∷ next ∷ rest)
    by_test true some other = omega (arith, some)
    by_test false other some = omega (arith, some)

-- and none is before it
least_first : (best : Due) (list : List Due) → how_many (λ x. is_before x (least_due best list)) (best ∷ list) ≡ 0
least_first best [] = rw (before_from best best (record { later = omega arith; greater = λ _. omega arith; number = λ _ _. omega arith })) refl
least_first best (next ∷ rest) = by_test (is_before next best) refl (least_first next rest) (least_first best rest)
  where
    zero_head : (b : Bool) (n : ℕ) → cond b 1 0 + n ≡ 0 → b ≡ false
    zero_head true n e = absurd (omega (arith, e))
    zero_head false n e = refl

    by_test : (b : Bool) → is_before next best ≡ b → how_many (λ x. is_before x (least_due next rest)) (next ∷ rest) ≡ 0 → how_many (λ x. is_before x (least_due best rest)) (best ∷ rest) ≡ 0
        → how_many (λ x. is_before x (least_due (cond b next best) rest)) (best ∷ next ∷ rest) ≡ 0
    by_test true e first other =
        let here : is_before next (least_due next rest) ≡ false = zero_head (is_before next (least_due next rest)) _ first in
        rw (none_before best next (least_due next rest) (one_way next best e) here) (omega (arith, first))
    by_test false e other first =
        let here : is_before best (least_due best rest) ≡ false = zero_head (is_before best (least_due best rest)) _ first in
        let tail : how_many (λ x. is_before x (least_due best rest)) rest ≡ 0 = omega (arith, first) in
        rw (here, none_before next best (least_due best rest) e here) (omega (arith, tail))

passes_none : (p : Due → Bool) (m : Due) (list : List Due) → how_many p list ≡ 0 → 1 ≤ how_many (is_same m) list → p m ≡ false
passes_none p m [] none some = absurd (omega (arith, some))
passes_none p m (x ∷ list) none some = by_test (is_same m x) refl (p x) refl some none (passes_none p m list)
  where
    by_test : (b : Bool) → is_same m x ≡ b → (c : Bool) → p x ≡ c → 1 ≤ cond b 1 0 + how_many (is_same m) list → cond c 1 0 + how_many p list ≡ 0
        → (how_many p list ≡ 0 → 1 ≤ how_many (is_same m) list → p m ≡ false) → p m ≡ false
    by_test b e true f some none rest = absurd (omega (arith, none))
    by_test true e false f some none rest = ap p (same_says m x e) ∙ f
    by_test false e false f some none rest = rest (omega (arith, none)) (omega (arith, some))

-- lists with the same deadlines have the same first one
pub least-same : (xs ys : List Due) → HaveAsMany xs ys → least xs ≡ least ys
least-same [] [] h = refl
least-same [] (y ∷ ys) h = absurd (omega (arith, h.as_many (λ x. true)))
least-same (x ∷ xs) [] h = absurd (omega (arith, h.as_many (λ x. true)))
least-same (x ∷ xs) (y ∷ ys) h =
    let m : Due = least_due x xs in
    let n : Due = least_due y ys in
    let none_m : how_many (λ z. is_before z m) (y ∷ ys) ≡ 0 = sym (h.as_many (λ z. is_before z m)) ∙ least_first x xs in
    let none_n : how_many (λ z. is_before z n) (x ∷ xs) ≡ 0 = h.as_many (λ z. is_before z n) ∙ least_first y ys in
    ap Some (antisym m n (passes_none (λ z. is_before z n) m (x ∷ xs) none_n (least_in x xs)) (passes_none (λ z. is_before z m) n (y ∷ ys) none_m (least_in y ys)))

-- the same items stay the same under a function
count-map : {A B : Type 0} (f : A → B) (t : B → Bool) (xs : List A) → how_many t (map f xs) ≡ how_many (λ x. t (f x)) xs
count-map f t [] = refl
count-map f t (x ∷ xs) = omega (arith, count-map f t xs)

pub as_many-map : {A B : Type 0} (f : A → B) (xs ys : List A) → HaveAsMany xs ys → HaveAsMany (map f xs) (map f ys)
as_many-map f xs ys h = record { as_many = λ test. count-map f test xs ∙ h.as_many (λ x. test (f x)) ∙ sym (count-map f test ys) }

-- one more deadline behind others
least_with : Due → Due → Due
least_with x y = cond (is_before x y) x y

least_due-more : (best : Due) (ys : List Due) (x : Due) → least_due best (ys ++ x ∷ []) ≡ least_with x (least_due best ys)
unfolding least_with
least_due-more best [] x = refl
least_due-more best (y ∷ ys) x = least_due-more (cond (is_before y best) y best) ys x

least-more : (xs : List Due) (x first : Due) → least xs ≡ Some first → least (xs ++ x ∷ []) ≡ Some (least_with x first)
least-more [] x first e = absurd cc
least-more (y ∷ ys) x first e = let same : least_due y ys ≡ first = cc in ap Some (least_due-more y ys x ∙ ap (least_with x) same)
