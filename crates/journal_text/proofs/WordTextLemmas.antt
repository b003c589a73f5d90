-- Words behind blanks, one list of them behind another.
use Rattle.std.proofs.Common.{◌≡◌, ℕ, List, [], ◌∷◌, ◌++◌, refl, ap, ◌∙◌, sym, append_assoc}
use Rattle.std.specs.List.{flat_map}
use Rattle.journal_text.specs.Words.{Word, spaced}

-- the text of two lists of words is that of the first, and then that of the second
pub spaced_two : (words others : List Word) → flat_map spaced (words ++ others) ≡ flat_map spaced words ++ flat_map spaced others
spaced_two [] others = refl
spaced_two (word ∷ words) others = ap (λ (text : List ℕ). 32 ∷ (word ++ text)) (spaced_two words others) ∙ ap (λ (text : List ℕ). 32 ∷ text) (sym (append_assoc word (flat_map spaced words) (flat_map spaced others)))
