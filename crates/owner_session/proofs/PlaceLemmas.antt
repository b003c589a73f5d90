-- The bodies of a run's requests: where they are, by what its journal and its tokens' names do.
use Rattle.std.proofs.Common.{◌≡◌, ◌≢◌, ◌∙◌, ℕ, suc, zero, ◌+◌, ◌-◌, ◌*◌, ◌≤◌, ◌<◌, ◌==◌, ◌||◌, Bool, true, false, not, cond, List, [], ◌∷◌, ◌++◌, Option, Some, None, is_some, length, refl, sym, ap, subst, inl, inr, arith, eq-eqb, ne_eqb}
use Rattle.std.proofs.lemmas.Bool.{and_from}
use Rattle.std.proofs.lemmas.List.{append-nil, append_assoc, length-append}
use Rattle.std.proofs.lemmas.List.Elements.{filter_map-append}
use Rattle.std.specs.FinMap as finite
use Rattle.std.specs.List.{cons_option, list_all, range_with_len}
use Rattle.std.specs.Option.{option_map_or, unwrap_or}
use Rattle.std.specs.Prelude.{Err, IfSome, Ok, Result, filter_map, is_err, option_map, option_to_list, slice_set}
use Rattle.item_list.specs.declared.no_memory.NoMemory.{NoMemory as OutOfMemory}
use Rattle.chan_types.specs.Plans.{Plan}
use Rattle.chan_types.specs.declared.journal.Entry.{Entry}
use Rattle.chan_types.specs.declared.journal.What.{What}
use Rattle.chan_types.specs.declared.journal.What.TheVariants.{Accept, Arrive, Cancel, Destroy, Expire, Fault, Servers, Start, Take}
use Rattle.chan_types.specs.declared.refusal.Refusal.{Refusal}
use Rattle.chan_types.specs.declared.spec.Spec.{Spec}
use Rattle.channel_model.proofs.NameLemmas.{name_kept_by_insert, name_put}
use Rattle.channel_model.proofs.Theorems.{IsLawfulPast-before, past_of-push, requests_numbered}
use Rattle.channel_model.specs.Commands.{accepted_for}
use Rattle.channel_model.specs.Completion.{occurrences, pending, ready, taken, taken_by}
use Rattle.channel_model.specs.Journal.{Accepted, Past, accepted, accepted_by, followed_by, is_destroyed, past_of}
use Rattle.channel_model.specs.Lawful.{IsLawful, IsLawfulPast}
use Rattle.channel_model.specs.Names.{Names, NamesStay, is_moved, moves}
use Rattle.channel_model.specs.Setting.{Setting}
use Rattle.channel_table.specs.Calling.{Owned}
use Rattle.completion_ticket.specs.States.{CallbackState, CalledState, called_with, token_name}
use Rattle.owner_session.specs.Places.{PlacesState}
use Rattle.owner_session.specs.Returning.{ArePlaced, ArePlacedFrom, AreBack, AreUnasked, AsksWith, HaveAsked, IsLeftOf, IsPlaced, PutsBack, TakesNext, body_name, numbers_asked}
use Rattle.seat_laws.proofs.ListLemmas.{first_passes}
use Rattle.seat_laws.proofs.PerformedLemmas.{takes_it}
use Rattle.owner_laws.proofs.ListLemmas.{denies}
use Rattle.owner_session.proofs.FinalLemmas.{taken_once_each}
use Rattle.owner_session.proofs.ListLemmas.{none_from}
use Rattle.owner_session.proofs.ObeyLemmas.{past_on}

-- ---- the requests that the run asked

-- by parts
pub numbers_parts : (xs ys : List Entry) → numbers_asked (xs ++ ys) ≡ numbers_asked xs ++ numbers_asked ys
numbers_parts xs ys = filter_map-append (λ entry. cond (entry.by == 0) (option_map (λ request. request.number) (accepted_by entry.what)) None) xs ys

-- none, where none was accepted on nobody's command
pub numbers_none : (es : List Entry) → accepted_for 0 es ≡ [] → numbers_asked es ≡ []
numbers_none [] none = refl
numbers_none (e ∷ es) none = by (e.by == 0) (accepted_by e.what) none (numbers_none es)
  where
    by : (b : Bool) (found : Option Accepted) → cons_option (cond b (option_map (λ request. record { spec = request.spec; script = request.script }) found) None) (accepted_for 0 es) ≡ [] →
        (accepted_for 0 es ≡ [] → numbers_asked es ≡ []) → cons_option (cond b (option_map (λ request. request.number) found) None) (numbers_asked es) ≡ []
    by true None none rest = rest none
    by true (Some r) none rest = absurd (cc none)
    by false found none rest = rest none

-- a run that is one longer
run_longer : (from len last : ℕ) → from + len ≡ last → range_with_len from (len + 1) ≡ range_with_len from len ++ last ∷ []
run_longer from len last is = let one : len + 1 ≡ suc len = omega arith in ap (range_with_len from) one ∙ by from len is
  where
    by : (k m : ℕ) → k + m ≡ last → range_with_len k (suc m) ≡ range_with_len k m ++ last ∷ []
    by k zero is = let one : k ≡ last = omega (arith, is) in ap (λ n. n ∷ []) one
    by k (suc m) is = ap (λ l. k ∷ l) (by (k + 1) m (omega (arith, is)))

-- ---- places that are emptied

-- the last place of a list of places, with a body and without
pub last_some : {B : Type 0} (places earlier : List (Option B)) (body : B) (rest : List B) → places ≡ earlier ++ Some body ∷ [] →
    filter_map (λ (place : Option B). place) earlier ++ body ∷ rest ≡ filter_map (λ (place : Option B). place) places ++ rest
last_some {B} places earlier body rest is =
    sym (ap (λ ps. filter_map (λ (place : Option B). place) ps ++ rest) is ∙ ap (λ xs. xs ++ rest) (filter_map-append (λ (place : Option B). place) earlier (Some body ∷ []))
    ∙ append_assoc (filter_map (λ (place : Option B). place) earlier) (body ∷ []) rest)

pub last_none : {B : Type 0} (places earlier : List (Option B)) (rest : List B) → places ≡ earlier ++ None ∷ [] →
    filter_map (λ (place : Option B). place) earlier ++ rest ≡ filter_map (λ (place : Option B). place) places ++ rest
last_none {B} places earlier rest is =
    sym (ap (λ ps. filter_map (λ (place : Option B). place) ps ++ rest) is ∙ ap (λ xs. xs ++ rest) (filter_map-append (λ (place : Option B). place) earlier (None ∷ []))
    ∙ append_assoc (filter_map (λ (place : Option B). place) earlier) [] rest)

-- what is put behind the last place is put nowhere
set_out : {A : Type 0} (xs : List A) (k : ℕ) (x : A) → length xs ≤ k → slice_set xs k x ≡ xs
set_out [] k x out = refl
set_out (y ∷ xs) zero x out = absurd (omega (arith, out))
set_out (y ∷ xs) (suc k) x out = ap (λ l. y ∷ l) (set_out xs k x (omega (arith, out)))

module _ {B : Type 0} (name : B → ℕ) (told : B → Option ℕ) (called : CalledState) where
  -- what is left of a callback, by what it gave
  pub left_of : (left : Option B) → is_some left ≡ called.boxed → IfSome left (λ body. (name body ≡ called.name) × (told body ≡ Some called.number)) → IsLeftOf name told called left
  left_of None given is = sym given
  left_of (Some body) given is = (sym given, is.0, is.1)

  -- where its request has no place, all is as it was
  pub put_nowhere : (left : Option B) (places : PlacesState B) → IsLeftOf name told called left → length places.back ≤ called.number - 1 → PutsBack name told called places places
  put_nowhere left places is out = record { left = left; is_left = is; back = λ some. sym (set_out places.back (called.number - 1) left out); rest = refl }

-- ---- tokens that stay

-- no fewer requests are accepted later
pub accepted_grows : (past : Past) (es : List Entry) → length (accepted past) ≤ length (accepted (followed_by past es))
accepted_grows past [] = omega arith
accepted_grows past (e ∷ es) =
    omega (arith, accepted_grows (e.what ∷ past) es, length-append (accepted past) (option_to_list (accepted_by e.what)))

-- what an entry that is allowed does to the token of a request that was accepted before, and that it doesn't take: nothing
still : (setting : Setting) (number : ℕ) (what : What) (past : Past) → IsLawfulPast setting (what ∷ past) → number ≤ length (accepted past) → not (option_map_or (λ n. n == number) (taken_by what) false) ≡ true →
    is_moved number (record { seat = 0; by = 0; what = what } ∷ []) ≡ false
still setting number (Accept n spec script) past lawful early untaken = none_from (n == number) false (ne_eqb n number (λ same. omega (arith, same, early, lawful.0.1))) refl
still setting number Cancel past lawful early untaken = refl
still setting number Destroy past lawful early untaken = refl
still setting number (Take n) past lawful early untaken = none_from (n == number) false (denies (n == number) untaken) refl
still setting number (Start n leg server link id mix moment) past lawful early untaken = refl
still setting number (Arrive server link bytes) past lawful early untaken = refl
still setting number (Expire n leg moment) past lawful early untaken = refl
still setting number (Fault server link moment) past lawful early untaken = refl
still setting number (Servers list) past lawful early untaken = refl

-- and so it goes on
pub unmoved : (setting : Setting) (number : ℕ) (past : Past) (es : List Entry) → IsLawfulPast setting (followed_by past es) → number ≤ length (accepted past) → list_all (λ e. not (takes_it number e)) es ≡ true → is_moved number es ≡ false
unmoved setting number past [] lawful early untaken = refl
unmoved setting number past (e ∷ es) lawful early untaken =
    let parts = first_passes (λ x. not (takes_it number x)) e es untaken in
    let one : is_moved number (record { seat = 0; by = 0; what = e.what } ∷ []) ≡ false = still setting number e.what past (IsLawfulPast-before setting (e.what ∷ past) es lawful) early parts.0 in
    let rest : is_moved number es ≡ false =
    unmoved setting number (e.what ∷ past) es lawful (omega (arith, early, length-append (accepted past) (option_to_list (accepted_by e.what)))) parts.1 in
    both (moves number e.what) (is_moved number es) one rest
  where
    both : (a b : Bool) → (a || false) ≡ false → b ≡ false → (a || b) ≡ false
    both true b one rest = absurd (cc one)
    both false b one rest = rest

-- so the token of such a request has the name that it had
module _ (a b : Owned) (since : List Entry) (seen : b.seen ≡ a.seen ++ since) (names : NamesStay since (Some a.names) (Some b.names)) (setting : Setting) (lawful : IsLawful setting b.seen) where
  past_is : past_of b.seen ≡ followed_by (past_of a.seen) since
  past_is = ap past_of seen ∙ past_on a.seen since

  lawful_past : IsLawfulPast setting (followed_by (past_of a.seen) since)
  lawful_past = subst (IsLawfulPast setting) past_is lawful.allowed

  pub still_named : (number : ℕ) → number ≤ length (accepted (past_of a.seen)) → list_all (λ e. not (takes_it number e)) since ≡ true → finite.get b.names number ≡ finite.get a.names number
  still_named number early untaken =
      ap (λ (known : Option Names). finite.get (unwrap_or known a.names) number) names.1
      ∙ names.2 number (unmoved setting number (past_of a.seen) since lawful_past early untaken)

  -- and no fewer are accepted
  pub still_accepted : length (accepted (past_of a.seen)) ≤ length (accepted (past_of b.seen))
  still_accepted = subst (λ past. length (accepted (past_of a.seen)) ≤ length (accepted past)) (sym past_is) (accepted_grows (past_of a.seen) since)

-- ---- bodies at their places

-- a token's name tells whose it is
pub named_body : (token : CallbackState) (name : ℕ) → token_name token ≡ body_name name → (token.boxed ≡ true) × (token.name ≡ name)
named_body token name same = by token.boxed refl same
  where
    by : (b : Bool) → token.boxed ≡ b → cond b (2 * token.name + 1) (2 * token.name) ≡ body_name name → (token.boxed ≡ true) × (token.name ≡ name)
    by true is same = let twice : 2 * token.name + 1 ≡ 2 * name + 1 = same in (is, omega (arith, twice))
    by false is same = let twice : 2 * token.name ≡ 2 * name + 1 = same in absurd (omega (arith, twice))

some_same : {A : Type 0} (x y : A) → Some x ≡ Some y → x ≡ y
some_same x y is = cc

module _ {B : Type 0} (name : B → ℕ) (told : B → Option ℕ) where
  -- one stays where it is, where the token of its number and whether it was taken stay
  place_stays : (names new_names : Names) (ts new_ts : List ℕ) (number : ℕ) (body : B) (place : Option B) → finite.get new_names number ≡ finite.get names number → occurrences number new_ts ≡ occurrences number ts →
      IsPlaced name told names ts number body place → IsPlaced name told new_names new_ts number body place
  place_stays names new_names ts new_ts number body None token taken_is is = (token ∙ is.0, taken_is ∙ is.1)
  place_stays names new_names ts new_ts number body (Some back) token taken_is is = (is.0, omega (arith, taken_is, is.1))

  -- and so do several
  pub places_stay : (names new_names : Names) (ts new_ts : List ℕ) (from most : ℕ)
      (same : (number : ℕ) → from ≤ number → number ≤ most → (finite.get new_names number ≡ finite.get names number) × (occurrences number new_ts ≡ occurrences number ts))
      (bodies : List B) (back : List (Option B)) → from + length bodies ≤ most + 1 → ArePlacedFrom name told names ts from bodies back → ArePlacedFrom name told new_names new_ts from bodies back
  places_stay names new_names ts new_ts from most same [] [] within are = tt
  places_stay names new_names ts new_ts from most same [] (place ∷ back) within are = absurd are
  places_stay names new_names ts new_ts from most same (body ∷ bodies) [] within are = absurd are
  places_stay names new_names ts new_ts from most same (body ∷ bodies) (place ∷ back) within are =
      let here = same from (omega arith) (omega (arith, within)) in (
        place_stays names new_names ts new_ts from body place here.0 here.1 are.0,
        places_stay names new_names ts new_ts (from + 1) most (λ number low high. same number (omega (arith, low)) high) bodies back (omega (arith, within)) are.1,
      )

  -- that of a request that is taken is put where it was
  put_here : (names new_names : Names) (ts new_ts : List ℕ) (number : ℕ) (token : CallbackState) (left : Option B) (body : B) (place : Option B) → finite.get names number ≡ Some (token_name token) →
      IsLeftOf name told (called_with number token) left → occurrences number ts ≡ 0 → 1 ≤ occurrences number new_ts → IsPlaced name told names ts number body place → IsPlaced name told new_names new_ts number body left
  put_here names new_names ts new_ts number token left body (Some back) token_is is_left untaken now are = absurd (omega (arith, untaken, are.1))
  put_here names new_names ts new_ts number token None body None token_is is_left untaken now are =
      let who = named_body token (name body) (some_same (token_name token) (body_name (name body)) (sym token_is ∙ are.0)) in
      absurd (let clash : true ≡ false = sym who.0 ∙ is_left in cc)
  put_here names new_names ts new_ts number token (Some back) body None token_is is_left untaken now are =
      let who = named_body token (name body) (some_same (token_name token) (body_name (name body)) (sym token_is ∙ are.0)) in
      ((is_left.1 ∙ who.1, is_left.2), now)

  -- and the others stay
  pub places_put : (names new_names : Names) (ts new_ts : List ℕ) (number most : ℕ) (token : CallbackState) (left : Option B) → finite.get names number ≡ Some (token_name token) → IsLeftOf name told (called_with number token) left →
      occurrences number ts ≡ 0 → 1 ≤ occurrences number new_ts →
      (same : (other : ℕ) → other ≢ number → other ≤ most → (finite.get new_names other ≡ finite.get names other) × (occurrences other new_ts ≡ occurrences other ts)) →
      (from k : ℕ) (bodies : List B) (back : List (Option B)) → from + k ≡ number → from + length bodies ≤ most + 1 → ArePlacedFrom name told names ts from bodies back →
      ArePlacedFrom name told new_names new_ts from bodies (slice_set back k left)
  places_put names new_names ts new_ts number most token left token_is is_left untaken now same from k [] [] at within are = tt
  places_put names new_names ts new_ts number most token left token_is is_left untaken now same from k [] (place ∷ back) at within are = absurd are
  places_put names new_names ts new_ts number most token left token_is is_left untaken now same from k (body ∷ bodies) [] at within are = absurd are
  places_put names new_names ts new_ts number most token left token_is is_left untaken now same from zero (body ∷ bodies) (place ∷ back) at within are =
      let here : number ≡ from = omega (arith, at) in (
        subst (λ n. IsPlaced name told new_names new_ts n body left) here
            (put_here names new_names ts new_ts number token left body place token_is is_left untaken now (subst (λ n. IsPlaced name told names ts n body place) (sym here) are.0)),
        places_stay names new_names ts new_ts (from + 1) most (λ other low high. same other (λ is. omega (arith, is, low, here)) high) bodies back (omega (arith, within)) are.1,
      )
  places_put names new_names ts new_ts number most token left token_is is_left untaken now same from (suc k) (body ∷ bodies) (place ∷ back) at within are =
      let here = same from (λ is. omega (arith, is, at)) (omega (arith, within)) in (
        place_stays names new_names ts new_ts from body place here.0 here.1 are.0,
        places_put names new_names ts new_ts number most token left token_is is_left untaken now same (from + 1) k bodies back (omega (arith, at)) (omega (arith, within)) are.1,
      )

  -- one more has the last place
  pub places_last : (names : Names) (ts : List ℕ) (from number : ℕ) (body : B) (bodies : List B) (back : List (Option B)) → from + length bodies ≡ number → ArePlacedFrom name told names ts from bodies back →
      IsPlaced name told names ts number body None → ArePlacedFrom name told names ts from (bodies ++ body ∷ []) (back ++ None ∷ [])
  places_last names ts from number body [] [] at are is = (subst (λ n. IsPlaced name told names ts n body None) (omega (arith, at)) is, tt)
  places_last names ts from number body [] (place ∷ back) at are is = absurd are
  places_last names ts from number body (b ∷ bodies) [] at are is = absurd are
  places_last names ts from number body (b ∷ bodies) (place ∷ back) at are is = (are.0, places_last names ts (from + 1) number body bodies back (omega (arith, at)) are.1 is)

  -- ---- a part of a run

  -- entries that accept nothing on nobody's command and take nothing leave the bodies where they are
  pub placed_more : (setting : Setting) (a b : Owned) (since : List Entry) → b.seen ≡ a.seen ++ since → NamesStay since (Some a.names) (Some b.names) → IsLawful setting b.seen → list_all (λ e. not (is_some (taken_by e.what))) since ≡ true →
      accepted_for 0 since ≡ [] → (bodies : List B) (back : List (Option B)) → ArePlaced name told bodies a back → ArePlaced name told bodies b back
  placed_more setting a b since seen names lawful plain none bodies back are = record {
    numbered = ap numbers_asked seen ∙ numbers_parts a.seen since ∙ ap (λ ns. numbers_asked a.seen ++ ns) (numbers_none since none) ∙ append-nil (numbers_asked a.seen) ∙ are.numbered;
    few = omega (arith, are.few, still_accepted a b since seen names setting lawful);
    placed = places_stay a.names b.names (taken (past_of a.seen)) (taken (past_of b.seen)) 1 (length bodies)
        (λ number low high. (
          still_named a b since seen names setting lawful number (omega (arith, high, are.few)) (each_untaken number since plain),
          ap (occurrences number) (ap taken (ap past_of seen ∙ past_on a.seen since) ∙ none_taken (past_of a.seen) since plain),
        ))
        bodies back (omega arith) are.placed;
  }
    where
      by_none : (number : ℕ) (found : Option ℕ) → not (is_some found) ≡ true → not (option_map_or (λ n. n == number) found false) ≡ true
      by_none number None none = refl
      by_none number (Some n) none = absurd (cc none)

      each_untaken : (number : ℕ) (es : List Entry) → list_all (λ e. not (is_some (taken_by e.what))) es ≡ true → list_all (λ e. not (takes_it number e)) es ≡ true
      each_untaken number [] plain = refl
      each_untaken number (e ∷ es) plain =
          let parts = first_passes (λ x. not (is_some (taken_by x.what))) e es plain in
          and_from (not (takes_it number e)) (list_all (λ x. not (takes_it number x)) es) (by_none number (taken_by e.what) parts.0) (each_untaken number es parts.1)

      adds_none : (ts : List ℕ) (found : Option ℕ) → not (is_some found) ≡ true → ts ++ option_to_list found ≡ ts
      adds_none ts None none = append-nil ts
      adds_none ts (Some n) none = absurd (cc none)

      none_taken : (past : Past) (es : List Entry) → list_all (λ e. not (is_some (taken_by e.what))) es ≡ true → taken (followed_by past es) ≡ taken past
      none_taken past [] plain = refl
      none_taken past (e ∷ es) plain =
          let parts = first_passes (λ x. not (is_some (taken_by x.what))) e es plain in
          none_taken (e.what ∷ past) es parts.1 ∙ adds_none (taken past) (taken_by e.what) parts.0

  -- ---- requests that are asked

  -- of the bodies that were given those so far were asked, and nothing else was done
  pub record HaveAskedSome (given : List B) (channel : Owned) (places : PlacesState B) : Type 0 where
    pub asked : List B
    pub parts : given ≡ asked ++ places.rest
    pub placed : ArePlaced name told asked channel places.back
    pub all : length (accepted (past_of channel.seen)) ≡ length asked
    pub untaken : taken (past_of channel.seen) ≡ []
    pub unclosed : is_destroyed (past_of channel.seen) ≡ false

  -- none was
  pub asked_none : (given : List B) (channel : Owned) (places : PlacesState B) → channel.seen ≡ [] → places.back ≡ [] → places.rest ≡ given → HaveAskedSome given channel places
  asked_none given channel places empty none rest = record {
    asked = [];
    parts = sym rest;
    placed = record {
      numbered = ap numbers_asked empty;
      few = omega arith;
      placed = subst (ArePlacedFrom name told channel.names (taken (past_of channel.seen)) 1 []) (sym none) tt;
    };
    all = ap (λ es. length (accepted (past_of es))) empty;
    untaken = ap (λ es. taken (past_of es)) empty;
    unclosed = ap (λ es. is_destroyed (past_of es)) empty;
  }

  module _ (refusal : B → Option Refusal) where
    -- that is all, and the others are as they were given
    pub asked_all : (given : List B) (channel : Owned) (places : PlacesState B) → HaveAskedSome given channel places → HaveAsked name told refusal given channel places
    asked_all given channel places some = record { asked = some.asked; unasked = places.rest; parts = some.parts; placed = some.placed; left = inl refl }

    -- one more
    pub asked_more : (given : List B) (a b : Owned) (p q r : PlacesState B) (spec : Spec) (script : Plan) (body : B) (result : Result (Unit {0}) OutOfMemory) → is_err result ≡ false → HaveAskedSome given a p →
        TakesNext (Ok (Some body)) p q → AsksWith name told refusal spec script body result a b q r → HaveAskedSome given b r
    asked_more given a b p q r spec script body (Err fault) ok some next asks = absurd (cc ok)
    asked_more given a b p q r spec script body (Ok done) ok some next asks =
        let number : ℕ = length (accepted (past_of a.seen)) + 1 in
        let number_is : number ≡ length some.asked + 1 = omega (arith, some.all) in
        let past_is : past_of b.seen ≡ Accept number spec script ∷ past_of a.seen = ap past_of asks.0 ∙ past_of-push a.seen (record { seat = 0; by = 0; what = Accept number spec script }) in
        let accepted_is : length (accepted (past_of b.seen)) ≡ number =
        ap (λ past. length (accepted past)) past_is ∙ length-append (accepted (past_of a.seen)) (record { number = number; spec = spec; script = script } ∷ []) in
        let long : length (some.asked ++ body ∷ []) ≡ length some.asked + 1 = length-append some.asked (body ∷ []) in
        let untaken : taken (past_of b.seen) ≡ [] = ap taken past_is ∙ append-nil (taken (past_of a.seen)) ∙ some.untaken in
        let back_is : r.back ≡ p.back ++ None ∷ [] = ap (λ (places : PlacesState B). places.back) asks.2 ∙ next.1 in
        record {
          asked = some.asked ++ body ∷ [];
          parts = some.parts ∙ ap (λ l. some.asked ++ l) next.0 ∙ sym (append_assoc some.asked (body ∷ []) q.rest) ∙ ap (λ (places : PlacesState B). (some.asked ++ body ∷ []) ++ places.rest) (sym asks.2);
          placed = record {
            numbered = ap numbers_asked asks.0 ∙ numbers_parts a.seen (record { seat = 0; by = 0; what = Accept number spec script } ∷ [])
                ∙ ap (λ ns. ns ++ number ∷ []) some.placed.numbered ∙ sym (run_longer 1 (length some.asked) number (omega (arith, number_is)))
                ∙ ap (range_with_len 1) (sym long);
            few = omega (arith, long, accepted_is, number_is);
            placed = subst (λ back. ArePlacedFrom name told b.names (taken (past_of b.seen)) 1 (some.asked ++ body ∷ []) back) (sym back_is)
                (places_last b.names (taken (past_of b.seen)) 1 number body some.asked p.back (omega (arith, number_is))
                (places_stay a.names b.names (taken (past_of a.seen)) (taken (past_of b.seen)) 1 (length some.asked)
                (λ other low high. (
                  ap (λ m. finite.get m other) asks.1 ∙ name_kept_by_insert a.names number (body_name (name body)) other (ne_eqb number other (λ same. omega (arith, same, high, number_is))),
                  ap (occurrences other) (untaken ∙ sym some.untaken),
                ))
                some.asked p.back (omega arith) some.placed.placed)
                (ap (λ m. finite.get m number) asks.1 ∙ name_put a.names number (body_name (name body)), ap (occurrences number) untaken));
          };
          all = accepted_is ∙ number_is ∙ sym long;
          untaken = untaken;
          unclosed = ap is_destroyed past_is ∙ some.unclosed;
        }

    -- one was refused
    pub asked_cut : (given : List B) (a b : Owned) (p q r : PlacesState B) (spec : Spec) (script : Plan) (body : B) (result : Result (Unit {0}) OutOfMemory) → is_err result ≡ true → HaveAskedSome given a p →
        TakesNext (Ok (Some body)) p q → AsksWith name told refusal spec script body result a b q r → HaveAsked name told refusal given b r
    asked_cut given a b p q r spec script body (Ok done) err some next asks = absurd (cc err)
    asked_cut given a b p q r spec script body (Err fault) err some next asks =
        let gives = asks.2.3 in
        let back_is : r.back ≡ p.back = front_same r.back p.back gives.0 None (sym gives.1 ∙ next.1) in
        record {
          asked = some.asked;
          unasked = body ∷ q.rest;
          parts = some.parts ∙ ap (λ l. some.asked ++ l) next.0;
          placed = record {
            numbered = ap numbers_asked asks.0 ∙ some.placed.numbered;
            few = subst (λ es. length some.asked ≤ length (accepted (past_of es))) (sym asks.0) some.placed.few;
            placed = subst (λ back. ArePlacedFrom name told b.names (taken (past_of b.seen)) 1 some.asked back) (sym back_is)
                (subst (λ names. ArePlacedFrom name told names (taken (past_of b.seen)) 1 some.asked p.back) (sym asks.1)
                (subst (λ es. ArePlacedFrom name told a.names (taken (past_of es)) 1 some.asked p.back) (sym asks.0) some.placed.placed));
          };
          left = subst (AreUnasked name told refusal (body ∷ q.rest)) (sym gives.2) (inr (asks.2.1, asks.2.2 some.unclosed, refl));
        }
      where
        front_same : {A : Type 0} (xs ys : List A) (x y : A) → xs ++ x ∷ [] ≡ ys ++ y ∷ [] → xs ≡ ys
        front_same [] [] x y same = refl
        front_same [] (z ∷ ys) x y same = absurd (omega (arith, ap length same, length-append ys (y ∷ [])))
        front_same (z ∷ xs) [] x y same = absurd (omega (arith, ap length same, length-append xs (x ∷ [])))
        front_same (z ∷ xs) (w ∷ ys) x y same =
            let whole : z ∷ (xs ++ x ∷ []) ≡ w ∷ (ys ++ y ∷ []) = same in
            let heads : z ≡ w = cc in
            let tails : xs ++ x ∷ [] ≡ ys ++ y ∷ [] = cc in
            ap (λ l. l ++ xs) (ap (λ v. v ∷ []) heads) ∙ ap (λ l. w ∷ l) (front_same xs ys x y tails)

    -- ---- the end

    -- where all were taken, all are back
    back_all : (names : Names) (ts : List ℕ) (from most : ℕ) → ((number : ℕ) → from ≤ number → number ≤ most → 1 ≤ occurrences number ts) → (bodies : List B) (back : List (Option B)) → from + length bodies ≤ most + 1 →
        ArePlacedFrom name told names ts from bodies back → (unasked rest : List B) → AreUnasked name told refusal unasked rest →
        AreBack name told refusal (range_with_len from (length bodies)) (bodies ++ unasked) (filter_map (λ place. place) back ++ rest)
    back_all names ts from most all [] [] within are unasked rest left = left
    back_all names ts from most all [] (place ∷ back) within are unasked rest left = absurd are
    back_all names ts from most all (body ∷ bodies) [] within are unasked rest left = absurd are
    back_all names ts from most all (body ∷ bodies) (None ∷ back) within are unasked rest left = absurd (omega (arith, all from (omega arith) (omega (arith, within)), are.0.1))
    back_all names ts from most all (body ∷ bodies) (Some b ∷ back) within are unasked rest left =
        (are.0.0, back_all names ts (from + 1) most (λ number low high. all number (omega (arith, low)) high) bodies back (omega (arith, within)) are.1 unasked rest left)

    pub all_back : (setting : Setting) (given : List B) (channel : Owned) (places : PlacesState B) → IsLawful setting channel.seen → pending setting (past_of channel.seen) ≡ [] → ready setting (past_of channel.seen) ≡ [] →
        HaveAsked name told refusal given channel places → AreBack name told refusal (numbers_asked channel.seen) given (filter_map (λ place. place) places.back ++ places.rest)
    all_back setting given channel places lawful none_pending none_ready have =
        subst (λ numbers. AreBack name told refusal numbers given (filter_map (λ place. place) places.back ++ places.rest)) (sym have.placed.numbered)
        (subst (λ bodies. AreBack name told refusal (range_with_len 1 (length have.asked)) bodies (filter_map (λ place. place) places.back ++ places.rest)) (sym have.parts)
        (back_all channel.names (taken past) 1 (length have.asked) (λ number low high. omega (
          arith,
          taken_once_each setting past lawful.allowed none_pending none_ready number,
          ap (occurrences number) (requests_numbered setting past lawful.allowed),
          stands_in number 1 (length (accepted past)) low (omega (arith, high, have.placed.few)),
        )) have.asked places.back (omega arith) have.placed.placed have.unasked places.rest have.left))
      where
        past : Past
        past = past_of channel.seen

        -- a run has its numbers
        stands_in : (n from len : ℕ) → from ≤ n → n < from + len → 1 ≤ occurrences n (range_with_len from len)
        stands_in n from zero low high = absurd (omega (arith, low, high))
        stands_in n from (suc len) low high = by (from == n) refl (λ above. stands_in n (from + 1) len above (omega (arith, high)))
          where
            differ : (from == n) ≡ false → from ≢ n
            differ is same = absurd (let h : true ≡ false = sym (eq-eqb from n same) ∙ is in cc)

            by : (b : Bool) → (from == n) ≡ b → (from + 1 ≤ n → 1 ≤ occurrences n (range_with_len (from + 1) len)) → 1 ≤ cond b (occurrences n (range_with_len (from + 1) len) + 1) (occurrences n (range_with_len (from + 1) len))
            by true is rest = omega arith
            by false is rest = rest (omega (arith, low, differ is))

    -- where nothing was asked, they are as they were given
    pub none_back : (journal : List Entry) (bodies : List B) → journal ≡ [] → AreBack name told refusal (numbers_asked journal) bodies bodies
    none_back journal bodies empty = subst (λ j. AreBack name told refusal (numbers_asked j) bodies bodies) (sym empty) (inl refl)
