-- What a loop over the rows finds first.
use Rattle.channel_table.proofs.Base.{◌≡◌, ◌∙◌, ℕ, ◌+◌, ◌<◌, true, false, List, [], ◌∷◌, ◌++◌, Option, Some, None, refl, ap, sym, take, drop, get_or, length, flat_map-append, take_more, flat_map, is_some, not, ◌||◌, first, IsWaiting, flying_in, status_in, Phase}
use Rattle.query_machine.specs.declared.leg.Phase.TheVariants as phases
use Rattle.channel_table.proofs.EndedRows.{split_at}

-- the first of a list is the first of a longer one
first_of : {Y : Type 0} (xs ys : List Y) (y : Y) → first xs ≡ Some y → first (xs ++ ys) ≡ Some y
first_of [] ys y e = absurd cc
first_of (x ∷ xs) ys y e = e

module _ {X Y : Type 0} (f : X → List Y) (xs : List X) (i : ℕ) (x : X) (inside : i < length xs) (is : x ≡ get_or xs i x) (none : flat_map f (take i xs) ≡ []) where
  -- an item that gives something behind those that give nothing gives the first
  pub found_first : (y : Y) → first (f x) ≡ Some y → first (flat_map f xs) ≡ Some y
  found_first y e = ap (λ zs. first (flat_map f zs)) (split_at xs i x inside is) ∙ ap first (flat_map-append f (take i xs) (x ∷ drop (i + 1) xs)) ∙ rw none (first_of (f x) (flat_map f (drop (i + 1) xs)) y e)

  -- and one that gives nothing is passed
  pub passed : f x ≡ [] → flat_map f (take (i + 1) xs) ≡ []
  passed e = ap (flat_map f) (take_more xs i x inside ∙ ap (λ r. take i xs ++ r ∷ []) (sym is)) ∙ flat_map-append f (take i xs) (x ∷ []) ∙ rw (none, e) refl

-- there is none where a test says so
pub no_attempt : {A : Type 0} (o : Option A) → is_some o ≡ false → o ≡ None
no_attempt None e = refl
no_attempt (Some x) e = absurd cc

-- a lookup that waits isn't in flight and hasn't ended
pub waiting_says : (phase : Phase) → not (is_some (flying_in phase) || is_some (status_in phase)) ≡ true → IsWaiting phase × (flying_in phase ≡ None) × (status_in phase ≡ None)
waiting_says phases.Waiting e = (tt, refl, refl)
waiting_says (phases.InFlight flying) e = absurd cc
waiting_says (phases.Ended status) e = absurd cc
