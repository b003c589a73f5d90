-- The parts of a list between bytes of one kind.
use Rattle.std.proofs.Common.{◌≡◌, ℕ, zero, suc, ◌+◌, ◌<◌, Bool, true, false, cond, not, eqb, ltb, List, [], ◌∷◌, ◌++◌, length, take, drop, All, Option, Some, None, refl, sym, ap, ◌∙◌, arith}
use Rattle.std.specs.List.{AllByRecursion, slice_split, position_or_len}
use Rattle.std.proofs.lemmas.Bool.{ne_eqb, eqb-true, eqb-false, ltb-true}
use Rattle.std.proofs.lemmas.List.Elements.{All-nil, All-cons}
use Rattle.std.proofs.lemmas.List.Splits.{slice_split_none, slice_split_at}
use Rattle.std.proofs.lemmas.Bool.{eq-eqb}
use Rattle.journal_text.specs.Cuts.{Lacks}

none_of : (byte : ℕ) (text : List ℕ) → Lacks byte text → All (λ b. eqb b byte ≡ false) text
none_of byte [] lacks = All-nil (λ b. eqb b byte ≡ false)
none_of byte (b ∷ text) lacks = All-cons (λ c. eqb c byte ≡ false) b text (ne_eqb b byte lacks.0) (none_of byte text lacks.1)

-- the first part, and those behind the byte
pub parts_behind : (byte : ℕ) (front rest : List ℕ) → Lacks byte front → slice_split (λ b. eqb b byte) (front ++ byte ∷ rest) ≡ front ∷ slice_split (λ b. eqb b byte) rest
parts_behind byte front rest lacks = slice_split_at (λ b. eqb b byte) front byte rest (none_of byte front lacks) (eq-eqb byte byte refl)

-- the only part
pub one_part : (byte : ℕ) (text : List ℕ) → Lacks byte text → slice_split (λ b. eqb b byte) text ≡ text ∷ []
one_part byte text lacks = slice_split_none (λ b. eqb b byte) text (none_of byte text lacks)

-- where a search answers an offset, it is that of the first, and there is one
pub found_in : (n len : ℕ) (r : Option ℕ) (i : ℕ) → r ≡ cond (ltb n len) (Some n) None → r ≡ Some i → (i ≡ n) × (i < len)
found_in n len r i so is = tested (ltb n len) refl (sym so ∙ is) where
  tested : (test : Bool) → ltb n len ≡ test → cond test (Some n) None ≡ Some i → (i ≡ n) × (i < len)
  tested true less same = let equal : n ≡ i = cc in (sym equal, omega (arith, ltb-true n len less, equal))
  tested false less same = absurd cc

cut_at_suc : (byte : ℕ) (text : List ℕ) (end : ℕ) → end ≡ position_or_len (λ b. eqb b byte) text → end < length text → (text ≡ take end text ++ byte ∷ drop (suc end) text) × Lacks byte (take end text)
cut_at_suc byte [] end is within = absurd (omega (arith, within))
cut_at_suc byte (b ∷ text) end is within = tested (eqb b byte) refl end is within (λ n same less. cut_at_suc byte text n same less) where
  tested : (test : Bool) → eqb b byte ≡ test → (e : ℕ) → e ≡ cond (not test) (1 + position_or_len (λ c. eqb c byte) text) 0 → e < length (b ∷ text)
      → ((n : ℕ) → n ≡ position_or_len (λ c. eqb c byte) text → n < length text → (text ≡ take n text ++ byte ∷ drop (suc n) text) × Lacks byte (take n text))
      → (b ∷ text ≡ take e (b ∷ text) ++ byte ∷ drop (suc e) (b ∷ text)) × Lacks byte (take e (b ∷ text))
  tested true hit zero same less again = (ap (λ (x : ℕ). x ∷ text) (eqb-true b byte hit), tt)
  tested true hit (suc n) same less again = absurd (omega (arith, same))
  tested false hit zero same less again = absurd (omega (arith, same))
  tested false hit (suc n) same less again =
      let both = again n (omega (arith, same)) (omega (arith, less)) in
      (ap (λ (xs : List ℕ). b ∷ xs) both.0, (eqb-false b byte hit, both.1))

-- a list is what stands before the first such byte, the byte, and what stands behind it
pub cut_parts : (byte : ℕ) (text : List ℕ) (end : ℕ) → end ≡ position_or_len (λ b. eqb b byte) text → end < length text → (text ≡ take end text ++ byte ∷ drop (end + 1) text) × Lacks byte (take end text)
cut_parts byte text end is within = let more : end + 1 ≡ suc end = omega arith in rw more (cut_at_suc byte text end is within)
