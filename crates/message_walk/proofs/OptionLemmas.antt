-- Options read one by one, without being kept.
use Rattle.std.proofs.Common.{◌≡◌, ℕ, zero, suc, ◌<◌, ◌≤◌, Bool, true, false, cond, ltb, List, [], ◌∷◌, length, take, drop, Option, Some, None, Result, Ok, Err, refl, sym, ap, ◌∙◌, arith}
use Rattle.std.specs.Prelude.{is_ok, option_map}
use Rattle.std.specs.Int.{w16, from_be_bytes}
use Rattle.std.proofs.lemmas.List.{length-drop}
use Rattle.edns_opt.specs.declared.opt.EdnsItem.{EdnsItem}
use Rattle.edns_opt.specs.Reading.{first_option, followed_by, options_in, then_read}

-- the bytes are options, in so many steps at most
abbrev pub reads_in : ℕ → List ℕ → Bool
reads_in steps bytes = is_ok (options_in steps bytes)

-- the bytes are options
abbrev pub are_read : List ℕ → Bool
are_read bytes = reads_in (length bytes) bytes

-- an option in front doesn't change whether the others can be read
followed : (item : EdnsItem) (read : Result (List EdnsItem) ℕ) → is_ok (followed_by item read) ≡ is_ok read
followed item (Ok items) = refl
followed item (Err offset) = refl

-- the second part of two pairs that are one
second_is : {A B : Type 0} (x y : A × B) → ◌≡◌ {A = Option (A × B)} (Some x) (Some y) → x.1 ≡ y.1
second_is {A} {B} x y e = let same : x ≡ y = cc in ap (λ (pair : A × B). pair.1) same

-- what is behind an option is shorter
behind_shorter : (bytes : List ℕ) (item : EdnsItem) (rest : List ℕ) → first_option bytes ≡ Some (item, rest) → length rest < length bytes
behind_shorter [] item rest e = absurd cc
behind_shorter (a ∷ []) item rest e = absurd cc
behind_shorter (a ∷ b ∷ []) item rest e = absurd cc
behind_shorter (a ∷ b ∷ c ∷ []) item rest e = absurd cc
behind_shorter (a ∷ b ∷ c ∷ d ∷ bytes) item rest e = by_test (from_be_bytes w16 (c ∷ d ∷ [])) (ltb (length bytes) (from_be_bytes w16 (c ∷ d ∷ []))) e where
  by_test : (len : ℕ) (t : Bool) → cond {A = Option (EdnsItem × List ℕ)} t None (Some (record { code = from_be_bytes w16 (a ∷ b ∷ []); content = take len bytes }, drop len bytes)) ≡ Some (item, rest)
      → length rest < length (a ∷ b ∷ c ∷ d ∷ bytes)
  by_test len true e = absurd cc
  by_test len false e = let is : drop len bytes ≡ rest = second_is _ _ e in rw (← is) (omega (arith, length-drop len bytes))

-- any number of steps will do that is enough
steps_enough : (n m : ℕ) (bytes : List ℕ) → length bytes ≤ n → length bytes ≤ m → reads_in n bytes ≡ reads_in m bytes
steps_enough zero zero [] a b = refl
steps_enough zero (suc m) [] a b = refl
steps_enough (suc n) zero [] a b = refl
steps_enough (suc n) (suc m) [] a b = refl
steps_enough zero m (x ∷ bytes) a b = absurd (omega arith)
steps_enough (suc n) zero (x ∷ bytes) a b = absurd (omega arith)
steps_enough (suc n) (suc m) (x ∷ bytes) a b = by_first (λ rest shorter. steps_enough n m rest (omega arith) (omega arith)) (first_option (x ∷ bytes)) refl where
  by_first : ((rest : List ℕ) → length rest < length (x ∷ bytes) → reads_in n rest ≡ reads_in m rest) → (first : Option (EdnsItem × List ℕ)) → first_option (x ∷ bytes) ≡ first
      → is_ok (then_read (options_in n) first) ≡ is_ok (then_read (options_in m) first)
  by_first same None e = refl
  by_first same (Some first) e =
      followed first.0 (options_in n first.1) ∙ same first.1 (behind_shorter (x ∷ bytes) first.0 first.1 e) ∙ sym (followed first.0 (options_in m first.1))

-- behind an option the others are read
read_on : (bytes : List ℕ) (item : EdnsItem) (rest : List ℕ) → first_option bytes ≡ Some (item, rest) → are_read bytes ≡ are_read rest
read_on [] item rest e = absurd cc
read_on (x ∷ bytes) item rest e =
    let shorter : length rest < length (x ∷ bytes) = behind_shorter (x ∷ bytes) item rest e in
    ap (λ first. is_ok (then_read (options_in (length bytes)) first)) e ∙ followed item (options_in (length bytes) rest) ∙ steps_enough (length bytes) (length rest) rest (omega arith) (omega arith)

pub read_behind : (bytes rest : List ℕ) → Some rest ≡ option_map (λ first. first.1) (first_option bytes) → are_read bytes ≡ are_read rest
read_behind bytes rest e = by_first (first_option bytes) refl e where
  by_first : (first : Option (EdnsItem × List ℕ)) → first_option bytes ≡ first → Some rest ≡ option_map (λ first. first.1) first → are_read bytes ≡ are_read rest
  by_first None is same = absurd cc
  by_first (Some first) is same = let behind : first.1 ≡ rest = cc in read_on bytes first.0 first.1 is ∙ ap are_read behind
