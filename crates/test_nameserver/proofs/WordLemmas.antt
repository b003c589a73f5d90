-- Six words, as they are borrowed.
use Rattle.std.proofs.Common.{◌≡◌, ℕ, ◌<◌, ◌≤◌, List, [], ◌∷◌, length, map, refl, arith, slice_index_or, Bor}

-- the words of a list of six
pub six_words : (d : Bor (List ℕ)) (words : List (Bor (List ℕ))) → 6 ≤ length words → length words < 7 →
    map (λ word. word.now) words ≡ (slice_index_or words 0 d).now ∷ (slice_index_or words 1 d).now ∷ (slice_index_or words 2 d).now ∷ (slice_index_or words 3 d).now ∷ (slice_index_or words 4 d).now ∷ (slice_index_or words 5 d).now ∷ []
six_words d [] long short = absurd (omega (arith, long))
six_words d (a ∷ []) long short = absurd (omega (arith, long))
six_words d (a ∷ b ∷ []) long short = absurd (omega (arith, long))
six_words d (a ∷ b ∷ c ∷ []) long short = absurd (omega (arith, long))
six_words d (a ∷ b ∷ c ∷ e ∷ []) long short = absurd (omega (arith, long))
six_words d (a ∷ b ∷ c ∷ e ∷ f ∷ []) long short = absurd (omega (arith, long))
six_words d (a ∷ b ∷ c ∷ e ∷ f ∷ g ∷ []) long short = refl
six_words d (a ∷ b ∷ c ∷ e ∷ f ∷ g ∷ h ∷ words) long short = absurd (omega (arith, short))
