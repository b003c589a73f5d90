-- The zone of one host more.
use Rattle.std.proofs.Common.{◌≡◌, ℕ, zero, suc, ◌+◌, Bool, true, false, List, [], ◌∷◌, ◌++◌, map, filter, if◌then◌else◌, refl, ap, ◌∙◌, arith}
use Rattle.std.specs.List.{range_with_len}
use Rattle.std.proofs.lemmas.List.{map-append}
use Rattle.std.proofs.lemmas.List.Elements.{filter-append}
use Rattle.test_nameserver.specs.Load.{host_record, is_there, load_zone}

range_more : (start count : ℕ) → range_with_len start (suc count) ≡ range_with_len start count ++ (start + count) ∷ []
range_more start zero = let none : start + 0 ≡ start = omega arith in rw none refl
range_more start (suc count) =
    let more : start + suc count ≡ start + 1 + count = omega arith in
    rw more (ap (λ (numbers : List ℕ). start ∷ numbers) (range_more (start + 1) count))

module _ {X : Type 0} (f : ℕ → X) (test : ℕ → Bool) where
  one_by : (b : Bool) (count : ℕ) → test count ≡ b → map f (filter test (count ∷ [])) ≡ (if b then f count ∷ [] else [])
  one_by true count is = rw is refl
  one_by false count is = rw is refl

  list_more : (count : ℕ) → map f (filter test (range_with_len 0 (suc count))) ≡ map f (filter test (range_with_len 0 count)) ++ (if test count then f count ∷ [] else [])
  list_more count =
      let last : 0 + count ≡ count = omega arith in
      ap (λ (numbers : List ℕ). map f (filter test numbers)) (range_more 0 count ∙ ap (λ (n : ℕ). range_with_len 0 count ++ n ∷ []) last)
      ∙ ap (map f) (filter-append test (range_with_len 0 count) (count ∷ []))
      ∙ map-append f (filter test (range_with_len 0 count)) (filter test (count ∷ []))
      ∙ ap (λ (others : List X). map f (filter test (range_with_len 0 count)) ++ others) (one_by (test count) count refl)

-- one host more, if it is there
pub load_more : (count : ℕ) → load_zone (count + 1) ≡ load_zone count ++ (if is_there count then host_record count ∷ [] else [])
load_more count =
    let one : count + 1 ≡ suc count = omega arith in
    ap (λ (n : ℕ). map host_record (filter is_there (range_with_len 0 n))) one ∙ list_more host_record is_there count
