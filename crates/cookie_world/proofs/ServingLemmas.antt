-- Words that are drawn one after the other.
use Rattle.std.proofs.Common.{◌≡◌, ℕ, ◌+◌, ◌≤◌, true, List, [], ◌∷◌, ◌++◌, length, Option, Result, Ok, Err, refl, sym, ap, ◌∙◌, append_assoc, arith}
use Rattle.std.specs.Prelude.{option_map, OnOk, is_err}
use Rattle.std.specs.Int.{w16, to_be_bytes}
use Rattle.std.proofs.lemmas.List.{append-nil, length-append, map-append}
use Rattle.std.proofs.lemmas.List.Concat.{flat_map-append}
use Rattle.item_list.specs.declared.no_memory.NoMemory.{NoMemory}
use Rattle.net_world.specs.declared.log.WorldCall.{WorldCall}
use Rattle.net_world.specs.declared.log.WorldCall.TheVariants.{Word}
use Rattle.cookie_world.specs.Rounds.{bytes_of_words, draws_of}
use Rattle.cookie_world.specs.Serving.{DrawsWords}
use Rattle.cookie_world.proofs.LogLemmas.{both_more}

-- some words, and then some more
pub draws_more : (first second : ℕ) (result : Result Unit NoMemory) (before middle after : Option (List WorldCall)) (old mid new : List ℕ) → DrawsWords first (Ok tt) before middle old mid → DrawsWords second result middle after mid new → DrawsWords (first + second) result before after old new
draws_more first second result before middle after old mid new one two = record {
  words = one.words ++ two.words;
  most = omega (arith, length-append one.words two.words, one.drawn.0, two.most);
  log = both_more (draws_of one.words) (draws_of two.words) before middle after one.log two.log
      ∙ ap (λ (calls : List WorldCall). option_map (λ (log : List WorldCall). log ++ calls) before) (sym (map-append (λ (word : ℕ). Word word) one.words two.words));
  drawn = drawn_more result two.drawn;
} where
  drawn_more : (result : Result Unit NoMemory) → OnOk result ((length two.words ≡ second) × (new ≡ mid ++ bytes_of_words two.words)) → OnOk result ((length (one.words ++ two.words) ≡ first + second) × (new ≡ old ++ bytes_of_words (one.words ++ two.words)))
  drawn_more (Ok done) drawn = (
    omega (arith, length-append one.words two.words, one.drawn.0, drawn.0),
    drawn.1 ∙ ap (λ (l : List ℕ). l ++ bytes_of_words two.words) one.drawn.1 ∙ append_assoc old (bytes_of_words one.words) (bytes_of_words two.words) ∙ ap (λ (l : List ℕ). old ++ l) (sym (flat_map-append (to_be_bytes w16) one.words two.words)),
  )
  drawn_more (Err e) drawn = tt

-- one word
pub draws_one : (word : ℕ) (before after : Option (List WorldCall)) (old new : List ℕ) → after ≡ option_map (λ calls. calls ++ Word word ∷ []) before → new ≡ old ++ to_be_bytes w16 word → DrawsWords 1 (Ok tt) before after old new
draws_one word before after old new log is = record { words = word ∷ []; most = omega arith; log = log; drawn = (refl, is ∙ ap (λ (b : List ℕ). old ++ b) (sym (append-nil (to_be_bytes w16 word)))) }

-- memory was wanting behind these words
pub draws_err : (count : ℕ) (result : Result Unit NoMemory) (before after : Option (List WorldCall)) (old new : List ℕ) → is_err result ≡ true → (words : List ℕ) → length words ≤ count → after ≡ option_map (λ calls. calls ++ draws_of words) before → DrawsWords count result before after old new
draws_err count (Ok done) before after old new err words most log = absurd (cc err)
draws_err count (Err e) before after old new err words most log = record { words = words; most = most; log = log; drawn = tt }
