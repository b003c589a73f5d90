-- The names among words, one word after another.
use Rattle.std.proofs.Common.{◌≡◌, ℕ, ◌+◌, ◌<◌, List, [], ◌++◌, map, length, take, get_or, Option, Some, None, refl}
use Rattle.std.specs.Prelude.{option_to_list}
use Rattle.std.specs.List.{cons_option}
use Rattle.std.proofs.lemmas.List.{map_more}
use Rattle.std.proofs.lemmas.List.Elements.{filter_map-append}
use denote.Ref.{Bor}
use Rattle.text_lines.specs.Names.{name_of, names_of}

-- the names of one word
one_word : (name : Option (List (List ℕ))) → cons_option name [] ≡ option_to_list name
one_word None = refl
one_word (Some name) = refl

-- one word more
pub word_more : (words : List (Bor (List ℕ))) (i : ℕ) (d : Bor (List ℕ)) (names : List (List (List ℕ))) → i < length words
    → names ≡ names_of (map (λ w. w.now) (take i words)) → names ++ option_to_list (name_of (get_or words i d).now) ≡ names_of (map (λ w. w.now) (take (i + 1) words))
word_more words i d names lt so =
    rw (map_more (λ (w : Bor (List ℕ)). w.now) words i d lt, filter_map-append, so, ← one_word (name_of (get_or words i d).now)) refl
