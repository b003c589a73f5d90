-- What an entry does to the list of the attempts in flight, in whatever order: a Start adds its own, and any other takes those away that it closes.
use Rattle.std.proofs.Common.{◌≡◌, ◌∙◌, ℕ, ◌+◌, ◌≤◌, Bool, true, false, List, [], ◌∷◌, Option, Some, None, refl, ap, ap₂, sym, subst, cond, arith, true≢false, length}
use Rattle.std.specs.List.{list_any, cons_option}
use Rattle.std.specs.Prelude.{◌&&◌, ◌||◌, ◌*◌, not, filter, filter_map, is_some}
use Rattle.chan_types.specs.declared.journal.What.{What}
use Rattle.channel_model.proofs.FlightLemmas.{has_leg-new, is_leg-itself, is_leg-says}
use Rattle.channel_model.specs.Flight.{Attempt, begun_by, begun_or, closes, flight, has_leg, in_flight, started, unless_closed, with_leg}
use Rattle.channel_model.specs.Journal.{Past}
use Rattle.channel_model.specs.Legs.{Leg, is_leg}
use Rattle.channel_model.specs.Past.{closing_of, closings, with_closing}
use Rattle.channel_model.specs.Setting.{Setting}
use Rattle.channel_model.specs.Verdict.{has_item}
use Rattle.channel_model.specs.AsMany.{HaveAsMany, how_many}

-- how many of a filtered list pass a test
pub count-filter : {X : Type 0} (p t : X → Bool) (xs : List X) → how_many t (filter p xs) ≡ how_many (λ x. p x && t x) xs
count-filter p t [] = refl
count-filter {X} p t (x ∷ xs) = by_test (p x) (count-filter p t xs)
  where
    by_test : (b : Bool) → how_many t (filter p xs) ≡ how_many (λ y. p y && t y) xs → how_many t (cond b (x ∷ filter p xs) (filter p xs)) ≡ cond (b && t x) 1 0 + how_many (λ y. p y && t y) xs
    by_test true rest = ap (λ n. cond (t x) 1 0 + n) rest
    by_test false rest = omega (arith, rest)

count_all : {X : Type 0} (xs : List X) → how_many (λ x. true) xs ≡ length xs
count_all [] = refl
count_all (x ∷ xs) = omega (arith, count_all xs)

count-same : {X : Type 0} (p q : X → Bool) (xs : List X) → ((x : X) → p x ≡ q x) → how_many p xs ≡ how_many q xs
count-same p q [] same = refl
count-same p q (x ∷ xs) same = rw (same x, count-same p q xs same) refl

-- a test that no item passes, and one that some item does
pub any_none : {X : Type 0} (t : X → Bool) (xs : List X) → list_any t xs ≡ false → how_many t xs ≡ 0
any_none t [] e = refl
any_none {X} t (x ∷ xs) e = by_test (t x) e (any_none t xs)
  where
    by_test : (b : Bool) → (b || list_any t xs) ≡ false → (list_any t xs ≡ false → how_many t xs ≡ 0) → cond b 1 0 + how_many t xs ≡ 0
    by_test true e rest = absurd (true≢false e)
    by_test false e rest = omega (arith, rest e)

pub any_some : {X : Type 0} (t : X → Bool) (xs : List X) → list_any t xs ≡ true → 1 ≤ how_many t xs
any_some t [] e = absurd (true≢false (sym e))
any_some {X} t (x ∷ xs) e = by_test (t x) e (any_some t xs)
  where
    by_test : (b : Bool) → (b || list_any t xs) ≡ true → (list_any t xs ≡ true → 1 ≤ how_many t xs) → 1 ≤ cond b 1 0 + how_many t xs
    by_test true e rest = omega arith
    by_test false e rest = omega (arith, rest e)

-- lists with the same items
pub as_many-refl : {A : Type 0} (xs : List A) → HaveAsMany xs xs
as_many-refl xs = record { as_many = λ test. refl }

pub as_many-filter : {A : Type 0} (p : A → Bool) (xs ys : List A) → HaveAsMany xs ys → HaveAsMany (filter p xs) (filter p ys)
as_many-filter p xs ys h = record { as_many = λ test. count-filter p test xs ∙ h.as_many (λ x. p x && test x) ∙ sym (count-filter p test ys) }

pub as_many-length : {A : Type 0} (xs ys : List A) → HaveAsMany xs ys → length xs ≡ length ys
as_many-length xs ys h = sym (count_all xs) ∙ h.as_many (λ x. true) ∙ count_all ys

pub as_many-any : {A : Type 0} (test : A → Bool) (xs ys : List A) → HaveAsMany xs ys → list_any test xs ≡ list_any test ys
as_many-any {A} test xs ys h = by_both (list_any test xs) (list_any test ys) refl refl
  where
    by_both : (b c : Bool) → list_any test xs ≡ b → list_any test ys ≡ c → b ≡ c
    by_both true true e f = refl
    by_both false false e f = refl
    by_both true false e f = absurd (omega (arith, any_some test xs e, any_none test ys f, h.as_many test))
    by_both false true e f = absurd (omega (arith, any_none test xs e, any_some test ys f, h.as_many test))

-- two legs are the same whichever is asked
is_leg-flip : (l m : Leg) → is_leg l m.request m.number ≡ is_leg m l.request l.number
is_leg-flip l m = by_test (is_leg l m.request m.number) (is_leg m l.request l.number) refl refl
  where
    by_test : (b c : Bool) → is_leg l m.request m.number ≡ b → is_leg m l.request l.number ≡ c → b ≡ c
    by_test true true e f = refl
    by_test false false e f = refl
    by_test true false e f = sym (subst (λ (x : Leg). is_leg m x.request x.number ≡ true) (sym (is_leg-says l m.request m.number e)) (is_leg-itself m)) ∙ f
    by_test false true e f = sym e ∙ subst (λ (x : Leg). is_leg l x.request x.number ≡ true) (sym (is_leg-says m l.request l.number f)) (is_leg-itself l)

-- how often a leg stands in a list
abbrev pub times : Leg → List Leg → ℕ
times leg legs = how_many (λ other. is_leg leg other.request other.number) legs

never : (leg : Leg) (legs : List Leg) → has_leg leg legs ≡ false → times leg legs ≡ 0
never leg legs none = any_none (λ other. is_leg leg other.request other.number) legs none

-- with the leg of a Start a leg stands there as often as before, or once
times-with : (leg : Leg) (begun : Option Attempt) (legs : List Leg) → times leg legs ≤ 1 → times leg (with_leg begun legs) ≤ 1
times-with leg None legs few = few
times-with leg (Some a) legs few = by_test (has_leg a.leg legs) refl
  where
    at_leg : (b : Bool) → is_leg leg a.leg.request a.leg.number ≡ b → has_leg a.leg legs ≡ false → cond b 1 0 + times leg legs ≤ 1
    at_leg false e none = omega (arith, few)
    at_leg true e none = omega (arith, never leg legs (subst (λ l. has_leg l legs ≡ false) (sym (is_leg-says leg a.leg.request a.leg.number e)) none))

    by_test : (b : Bool) → has_leg a.leg legs ≡ b → times leg (cond b legs (a.leg ∷ legs)) ≤ 1
    by_test true has = few
    by_test false has = at_leg (is_leg leg a.leg.request a.leg.number) refl has

-- a leg has one place among those that have a Start
pub started_once : (leg : Leg) (past : Past) → times leg (started past) ≤ 1
started_once leg [] = omega arith
started_once leg (what ∷ past) = times-with leg (begun_by what) (started past) (started_once leg past)

-- and the leg of a Start has one
times-own : (a : Attempt) (legs : List Leg) → times a.leg legs ≤ 1 → times a.leg (with_leg (Some a) legs) ≡ 1
times-own a legs few = by_test (has_leg a.leg legs) refl
  where
    by_test : (b : Bool) → has_leg a.leg legs ≡ b → times a.leg (cond b legs (a.leg ∷ legs)) ≡ 1
    by_test true has = omega (arith, few, any_some (λ other. is_leg a.leg other.request other.number) legs has)
    by_test false has = rw (is_leg-itself a.leg) (omega (arith, never a.leg legs has))

one_more : (n w x y : ℕ) → x ≡ n * w + y → w + x ≡ (1 + n) * w + y
one_more n w x y e = omega (arith, e)

nothing_more : (n : ℕ) → n ≡ 0 + n
nothing_more n = omega arith

once_more : (w y : ℕ) → 1 * w + y ≡ w + y
once_more w y = omega arith

module _ (setting : Setting) where
  closed_away : (what : What) (past : Past) (h : Leg → Option Attempt) (legs : List Leg)
      → filter_map (λ leg. unless_closed setting what past (h leg)) legs ≡ filter (λ a. not (closes setting a what past)) (filter_map h legs)
  closed_away what past h [] = refl
  closed_away what past h (leg ∷ legs) = by_flight (h leg) (closed_away what past h legs)
    where
      by_test : (a : Attempt) (b : Bool) (rest left : List Attempt) → rest ≡ left → cons_option (cond b None (Some a)) rest ≡ cond (not b) (a ∷ left) left
      by_test a true rest left e = e
      by_test a false rest left e = ap (λ r. a ∷ r) e

      by_flight : (o : Option Attempt) → filter_map (λ l. unless_closed setting what past (h l)) legs ≡ filter (λ a. not (closes setting a what past)) (filter_map h legs)
          → cons_option (unless_closed setting what past o) (filter_map (λ l. unless_closed setting what past (h l)) legs) ≡ filter (λ a. not (closes setting a what past)) (cons_option o (filter_map h legs))
      by_flight None rest = rest
      by_flight (Some a) rest = by_test a (closes setting a what past) _ _ rest

  -- behind an entry that begins nothing those are in flight that were, and that it doesn't close
  pub in_flight-closed : (what : What) (past : Past) → begun_by what ≡ None → in_flight setting (what ∷ past) ≡ filter (λ a. not (closes setting a what past)) (in_flight setting past)
  in_flight-closed what past none =
      ap (λ b. filter_map (λ leg. begun_or leg b (unless_closed setting what past (flight setting leg past))) (with_leg b (started past))) none
      ∙ closed_away what past (λ leg. flight setting leg past) (started past)

  begun_more : (t : Attempt → Bool) (a : Attempt) (h : Leg → Option Attempt) (legs : List Leg) → h a.leg ≡ None
      → how_many t (filter_map (λ leg. begun_or leg (Some a) (h leg)) legs) ≡ times a.leg legs * cond (t a) 1 0 + how_many t (filter_map h legs)
  begun_more t a h [] idle = omega arith
  begun_more t a h (leg ∷ legs) idle = by_leg (is_leg leg a.leg.request a.leg.number) refl (begun_more t a h legs idle)
    where
      kept : (o : Option Attempt) → how_many t (filter_map (λ l. begun_or l (Some a) (h l)) legs) ≡ times a.leg legs * cond (t a) 1 0 + how_many t (filter_map h legs)
          → how_many t (cons_option o (filter_map (λ l. begun_or l (Some a) (h l)) legs)) ≡ times a.leg legs * cond (t a) 1 0 + how_many t (cons_option o (filter_map h legs))
      kept None rest = rest
      kept (Some b) rest = omega (arith, rest)

      by_leg : (b : Bool) → is_leg leg a.leg.request a.leg.number ≡ b → how_many t (filter_map (λ l. begun_or l (Some a) (h l)) legs) ≡ times a.leg legs * cond (t a) 1 0 + how_many t (filter_map h legs)
          → how_many t (cons_option (cond b (Some a) (h leg)) (filter_map (λ l. begun_or l (Some a) (h l)) legs))
          ≡ (cond (is_leg a.leg leg.request leg.number) 1 0 + times a.leg legs) * cond (t a) 1 0 + how_many t (cons_option (h leg) (filter_map h legs))
      by_leg true e rest =
          let none : h leg ≡ None = subst (λ l. h l ≡ None) (sym (is_leg-says leg a.leg.request a.leg.number e)) idle in
          let flip : is_leg a.leg leg.request leg.number ≡ true = is_leg-flip a.leg leg ∙ e in
          subst (λ o. how_many t (a ∷ filter_map (λ l. begun_or l (Some a) (h l)) legs) ≡ (cond (is_leg a.leg leg.request leg.number) 1 0 + times a.leg legs) * cond (t a) 1 0 + how_many t (cons_option o (filter_map h legs))) (sym none)
          (subst (λ b. how_many t (a ∷ filter_map (λ l. begun_or l (Some a) (h l)) legs) ≡ (cond b 1 0 + times a.leg legs) * cond (t a) 1 0 + how_many t (filter_map h legs)) (sym flip)
          (one_more (times a.leg legs) (cond (t a) 1 0) _ _ rest))
      by_leg false e rest =
          let flip : is_leg a.leg leg.request leg.number ≡ false = is_leg-flip a.leg leg ∙ e in
          subst (λ b. how_many t (cons_option (h leg) (filter_map (λ l. begun_or l (Some a) (h l)) legs)) ≡ (cond b 1 0 + times a.leg legs) * cond (t a) 1 0 + how_many t (cons_option (h leg) (filter_map h legs))) (sym flip)
          (kept (h leg) rest ∙ ap (λ n. n * cond (t a) 1 0 + how_many t (cons_option (h leg) (filter_map h legs))) (nothing_more (times a.leg legs)))

  begun_idle : (a : Attempt) (h : Leg → Option Attempt) (legs : List Leg) → h a.leg ≡ None → filter_map h (with_leg (Some a) legs) ≡ filter_map h legs
  begun_idle a h legs idle = by_test (has_leg a.leg legs)
    where
      by_test : (b : Bool) → filter_map h (cond b legs (a.leg ∷ legs)) ≡ filter_map h legs
      by_test true = refl
      by_test false = ap (λ o. cons_option o (filter_map h legs)) idle

  -- behind the Start of an idle leg its attempt is in flight beside those that were
  pub in_flight-begun : (what : What) (past : Past) (a : Attempt) → begun_by what ≡ Some a → flight setting a.leg past ≡ None → ((b : Attempt) → closes setting b what past ≡ false)
      → HaveAsMany (in_flight setting (what ∷ past)) (a ∷ in_flight setting past)
  in_flight-begun what past a begins idle spares = record { as_many = as_many }
    where
      h : Leg → Option Attempt
      h leg = unless_closed setting what past (flight setting leg past)

      as_many : (test : Attempt → Bool) → how_many test (in_flight setting (what ∷ past)) ≡ cond (test a) 1 0 + how_many test (in_flight setting past)
      as_many test =
          let legs : List Leg = with_leg (Some a) (started past) in
          let none : h a.leg ≡ None = ap (unless_closed setting what past) idle in
          let is : how_many test (in_flight setting (what ∷ past)) ≡ how_many test (filter_map (λ leg. begun_or leg (Some a) (h leg)) legs) =
          ap (λ b. how_many test (filter_map (λ leg. begun_or leg b (h leg)) (with_leg b (started past)))) begins in
          let more = begun_more test a h legs none in
          let once : times a.leg legs ≡ 1 = times-own a (started past) (started_once a.leg past) in
          let others : how_many test (filter_map h legs) ≡ how_many test (in_flight setting past) =
          ap (how_many test) (begun_idle a h (started past) none ∙ closed_away what past (λ leg. flight setting leg past) (started past))
          ∙ count-filter (λ b. not (closes setting b what past)) test (in_flight setting past)
          ∙ count-same (λ b. not (closes setting b what past) && test b) test (in_flight setting past) (λ b. ap (λ c. not c && test b) (spares b)) in
          is ∙ more ∙ ap₂ (λ n m. n * cond (test a) 1 0 + m) once others ∙ once_more (cond (test a) 1 0) (how_many test (in_flight setting past))

  -- a leg has a Start exactly where it is in flight or has a closing
  pub started-says : (leg : Leg) (past : Past) → has_leg leg (started past) ≡ (is_some (flight setting leg past) || has_item (closings setting leg past))
  started-says leg [] = refl
  started-says leg (what ∷ past) = by_begun (begun_by what) (started-says leg past ∙ sym (kept (flight setting leg past)))
    where
      kept : (o : Option Attempt) → (is_some (unless_closed setting what past o) || has_item (with_closing setting what past o (closings setting leg past))) ≡ (is_some o || has_item (closings setting leg past))
      kept None = refl
      kept (Some a) = by_test (closes setting a what past)
        where
          by_test : (b : Bool) → (is_some (cond b None (Some a)) || has_item (cond b (closing_of setting a what past (closings setting leg past) ∷ closings setting leg past) (closings setting leg past))) ≡ true
          by_test true = refl
          by_test false = refl

      by_begun : (o : Option Attempt) → has_leg leg (started past) ≡ (is_some (unless_closed setting what past (flight setting leg past)) || has_item (closings setting leg (what ∷ past)))
          → has_leg leg (with_leg o (started past)) ≡ (is_some (begun_or leg o (unless_closed setting what past (flight setting leg past))) || has_item (closings setting leg (what ∷ past)))
      by_begun None before = before
      by_begun (Some a) before = by_test (is_leg leg a.leg.request a.leg.number) refl
        where
          in_list : (b : Bool) → is_leg leg a.leg.request a.leg.number ≡ false → has_leg leg (cond b (started past) (a.leg ∷ started past)) ≡ has_leg leg (started past)
          in_list true other = refl
          in_list false other = rw other refl

          by_test : (b : Bool) → is_leg leg a.leg.request a.leg.number ≡ b
              → has_leg leg (with_leg (Some a) (started past)) ≡ (is_some (cond b (Some a) (unless_closed setting what past (flight setting leg past))) || has_item (closings setting leg (what ∷ past)))
          by_test true own = has_leg-new leg a (started past) (is_leg-says leg a.leg.request a.leg.number own)
          by_test false other = in_list (has_leg a.leg (started past)) other ∙ before

-- an entry that begins nothing leaves the legs that have a Start
pub started-kept : (what : What) (past : Past) → begun_by what ≡ None → started (what ∷ past) ≡ started past
started-kept what past none = ap (λ o. with_leg o (started past)) none

-- a Start leaves their number where its leg has one
pub started-again : (what : What) (past : Past) (a : Attempt) → begun_by what ≡ Some a → has_leg a.leg (started past) ≡ true → started (what ∷ past) ≡ started past
started-again what past a begins has = rw (begins, has) refl

-- and else adds its leg
pub started-new : (what : What) (past : Past) (a : Attempt) → begun_by what ≡ Some a → has_leg a.leg (started past) ≡ false → started (what ∷ past) ≡ a.leg ∷ started past
started-new what past a begins none = rw (begins, none) refl
