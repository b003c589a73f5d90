-- What options set, one word after another, and numbers digit by digit.
use Rattle.std.proofs.Common.{◌≡◌, ℕ, ◌+◌, ◌-◌, ◌*◌, ◌<◌, min, Bool, true, false, ◌||◌, List, [], ◌∷◌, ◌++◌, length, map, take, get_or, Option, Some, None, refl, arith}
use Rattle.std.specs.Prelude.{filter_map, unwrap_or, codes, bytes_eq}
use Rattle.std.specs.List.{cons_option, list_any}
use Rattle.std.proofs.lemmas.List.{map_more}
use Rattle.std.proofs.lemmas.List.Elements.{filter_map-append}
use Rattle.std.proofs.lemmas.List.Folds.{list_any-append}
use denote.Ref.{Bor}
use Rattle.net_addr.specs.Reading as reading
use Rattle.resolv_options.specs.Values.{OptionValues}
use Rattle.resolv_options.specs.Lasts.{last_or}
use Rattle.resolv_options.specs.OptionWords.{ndots_in, timeout_in, tries_in, with_options}

-- ---- the last that is set

-- the last of items in two parts
pub last_or-append : {A : Type 0} (item : A) (xs ys : List A) → last_or item (xs ++ ys) ≡ last_or (last_or item xs) ys
last_or-append item [] ys = refl
last_or-append item (x ∷ xs) ys = last_or-append x xs ys

-- the last that is set by words in two parts
pub last_set : {A X : Type 0} (f : X → Option A) (item : A) (xs ys : List X) → last_or item (filter_map f (xs ++ ys)) ≡ last_or (last_or item (filter_map f xs)) (filter_map f ys)
last_set f item xs ys = rw (filter_map-append f xs ys) (last_or-append item (filter_map f xs) (filter_map f ys))

-- what one word sets
pub last_one : {A : Type 0} (item : A) (found : Option A) → last_or item (cons_option found []) ≡ unwrap_or found item
last_one item None = refl
last_one item (Some found) = refl

-- a switch that words in two parts set
any_set : {X : Type 0} (p : X → Bool) (was : Bool) (xs ys : List X) → (list_any p (xs ++ ys) || was) ≡ (list_any p ys || (list_any p xs || was))
any_set p was xs ys =
    rw (list_any-append p xs ys)
    (elim (list_any p xs) as (λ (x : Bool). ((x || list_any p ys) || was) ≡ (list_any p ys || (x || was))) [
      | true ↦ elim (list_any p ys) as (λ (y : Bool). true ≡ (y || true)) [ true ↦ refl | false ↦ refl ]
      | false ↦ refl
    ])

-- what words set in two parts
pub options_in_turn : (options : OptionValues) (xs ys : List (List ℕ)) → with_options (with_options options xs) ys ≡ with_options options (xs ++ ys)
options_in_turn options xs ys =
    rw (
      last_set ndots_in options.ndots xs ys,
      last_set timeout_in options.timeout xs ys,
      last_set tries_in options.tries xs ys,
      any_set (λ word. bytes_eq word (codes "use-vc")) options.flags.usevc xs ys,
      any_set (λ word. bytes_eq word (codes "rotate")) options.rotate xs ys,
    ) refl

-- one word more
pub option_more : (options : OptionValues) (words : List (Bor (List ℕ))) (i : ℕ) (d : Bor (List ℕ)) → i < length words
    → with_options (with_options options (map (λ w. w.now) (take i words))) ((get_or words i d).now ∷ []) ≡ with_options options (map (λ w. w.now) (take (i + 1) words))
option_more options words i d lt =
    rw (map_more (λ (w : Bor (List ℕ)). w.now) words i d lt) (options_in_turn options (map (λ w. w.now) (take i words)) ((get_or words i d).now ∷ []))

-- ---- numbers

-- a number that is cut at each digit is cut at the end
cut_more : (most n d : ℕ) → min (min most n * 10 + d) most ≡ min most (n * 10 + d)
cut_more most n d = omega arith
