-- The first line of a text, and the lines behind it.
use Rattle.std.proofs.Common.{◌≡◌, ℕ, suc, ◌+◌, ◌<◌, ◌≤◌, Bool, true, false, cond, not, eqb, ltb, List, [], ◌∷◌, length, take, drop, Option, Some, None, refl, sym, ◌∙◌, arith}
use Rattle.std.specs.List.{slice_split, onto_first, position_or_len}
use Rattle.std.proofs.lemmas.Bool.Decides.{nat_tests}
use Rattle.std.proofs.lemmas.List.Splits.{slice_split_first}
use Rattle.std.proofs.lemmas.Option.{cond_some}

-- ---- the first byte that passes a test

-- where a search answers an offset, it is that of the first
pub found_at : (n len : ℕ) (r : Option ℕ) (i : ℕ) → r ≡ cond (ltb n len) (Some n) None → r ≡ Some i → i ≡ n
found_at n len r i so is = sym (cond_some (ltb n len) n i (sym so ∙ is)).1

-- where it answers none, there is none
pub none_found : (n len : ℕ) (r : Option ℕ) → n ≤ len → r ≡ cond (ltb n len) (Some n) None → r ≡ None → len ≡ n
none_found n len r most so is =
    (elim (ltb n len) as (λ (b : Bool). ltb n len ≡ b → cond b (Some n) None ≡ None → len ≡ n) [
      | true ↦ λ less none. absurd cc
      | false ↦ λ less none. grind (arith, nat_tests)
    ]) refl (sym so ∙ is)

-- ---- lines

-- where no byte ends a line, the text is one line
one_part : (p : ℕ → Bool) (bytes : List ℕ) → position_or_len p bytes ≡ length bytes → slice_split p bytes ≡ bytes ∷ []
one_part p [] none = refl
one_part p (b ∷ bytes) none =
    (elim (p b) as (λ (ends : Bool). cond (not ends) (1 + position_or_len p bytes) 0 ≡ suc (length bytes) → cond ends ([] ∷ slice_split p bytes) (onto_first b (slice_split p bytes)) ≡ (b ∷ bytes) ∷ []) [
      | true ↦ λ none. absurd (omega arith)
      | false ↦ λ none. rw (one_part p bytes (omega arith)) refl
    ]) none

module _ (text : List ℕ) (end : ℕ) (is : end ≡ position_or_len (λ byte. eqb byte 10) text) where
  -- a text without LF is its last line
  pub last_line : end ≡ length text → slice_split (λ byte. eqb byte 10) text ≡ text ∷ []
  last_line none = one_part (λ byte. eqb byte 10) text (rw is at none)

  -- the first line ends before the first LF, and the others stand behind it
  pub first_line : end < length text → slice_split (λ byte. eqb byte 10) text ≡ take end text ∷ slice_split (λ byte. eqb byte 10) (drop (end + 1) text)
  first_line within = rw is (slice_split_first (λ byte. eqb byte 10) text 0 (rw is at within))
