-- The tickets among messages.
use Rattle.std.proofs.Common.{◌≡◌, ◌∙◌, ◌<◌, ℕ, zero, suc, List, [], ◌∷◌, ◌++◌, flat_map, length, get_or, set, swap, refl, ap, arith}
use Rattle.std.proofs.lemmas.List.Sorted.{IsPermutation-cons, IsPermutation-keeps, IsPermutation-middle, IsPermutation-refl, IsPermutation-trans}
use Rattle.std.specs.List.Sorted.{IsPermutation}
use Rattle.delivery_pool.specs.declared.message.Message.{Message}
use Rattle.delivery_pool.specs.declared.message.Message.TheVariants.{Stop, Ticket}
use Rattle.delivery_pool.specs.Pools.{messages_of, tickets_in}

module _ {X : Type 0} (R : List X → List X → Type 0)
    (same : (xs : List X) → R xs xs)
    (under : (x : X) (xs ys : List X) → R xs ys → R (x ∷ xs) (x ∷ ys))
    (turn : (x y : X) (xs : List X) → R (x ∷ y ∷ xs) (y ∷ x ∷ xs))
    (chain : (xs ys zs : List X) → R xs ys → R ys zs → R xs zs) where
  to_head : (l : List X) (j : ℕ) (x d : X) → j < length l → R (x ∷ l) (get_or l j d ∷ set l j x)
  to_head [] j x d h = absurd (omega arith)
  to_head (y ∷ l) zero x d h = turn x y l
  to_head (y ∷ l) (suc j) x d h = chain _ _ _ (turn x y l) (chain _ _ _ (under y _ _ (to_head l j x d (omega arith))) (turn y (get_or l j d) (set l j x)))

  exchange : (l : List X) (i j : ℕ) (d : X) → i < length l → j < length l → R l (set (set l i (get_or l j d)) j (get_or l i d))
  exchange [] i j d p q = absurd (omega arith)
  exchange (x ∷ l) zero zero d p q = same (x ∷ l)
  exchange (x ∷ l) zero (suc j) d p q = to_head l j x d (omega arith)
  exchange (x ∷ l) (suc i) zero d p q = to_head l i x d (omega arith)
  exchange (x ∷ l) (suc i) (suc j) d p q = under x _ _ (exchange l i j d (omega arith) (omega arith))

  swapped : (l : List X) (i j : ℕ) → i < length l → j < length l → R l (swap l i j)
  swapped [] i j p q = same []
  swapped (x ∷ l) i j p q = exchange (x ∷ l) i j x p q

  -- a relation holds along each permutation, if it holds of equal lists and of an exchange of the first two, under a head, and one after the other
  along : (xs ys : List X) → IsPermutation xs ys → R xs ys
  along xs = IsPermutation-keeps xs (R xs) (same xs) (λ l i j p q h. chain xs l _ h (swapped l i j p q))

module _ {T : Type 0} where
  pub tickets_in-append : (xs ys : List (Message T)) → tickets_in (xs ++ ys) ≡ tickets_in xs ++ tickets_in ys
  tickets_in-append [] ys = refl
  tickets_in-append (Stop ∷ xs) ys = tickets_in-append xs ys
  tickets_in-append (Ticket ticket ∷ xs) ys = ap (λ l. ticket ∷ l) (tickets_in-append xs ys)

  pub tickets_in-messages_of : (tickets : List T) → tickets_in (messages_of tickets) ≡ tickets
  tickets_in-messages_of [] = refl
  tickets_in-messages_of (ticket ∷ tickets) = ap (λ l. ticket ∷ l) (tickets_in-messages_of tickets)

  -- the tickets among all messages of some lists are those of each list
  pub tickets_in-flat_map : {P : Type 0} (f : P → List (Message T)) (ps : List P) → tickets_in (flat_map f ps) ≡ flat_map (λ p. tickets_in (f p)) ps
  tickets_in-flat_map f [] = refl
  tickets_in-flat_map f (p ∷ ps) = tickets_in-append (f p) (flat_map f ps) ∙ ap (λ l. tickets_in (f p) ++ l) (tickets_in-flat_map f ps)

  -- messages in another order have their tickets in another order
  pub tickets_in-permutation : (xs ys : List (Message T)) → IsPermutation xs ys → IsPermutation (tickets_in xs) (tickets_in ys)
  tickets_in-permutation = along (λ xs ys. IsPermutation (tickets_in xs) (tickets_in ys)) (λ xs. IsPermutation-refl (tickets_in xs)) under turn (λ xs ys zs. IsPermutation-trans (tickets_in xs) (tickets_in ys) (tickets_in zs))
    where
      under : (m : Message T) (xs ys : List (Message T)) → IsPermutation (tickets_in xs) (tickets_in ys) → IsPermutation (tickets_in (m ∷ xs)) (tickets_in (m ∷ ys))
      under Stop xs ys is = is
      under (Ticket ticket) xs ys is = IsPermutation-cons ticket (tickets_in xs) (tickets_in ys) is

      turn : (m n : Message T) (xs : List (Message T)) → IsPermutation (tickets_in (m ∷ n ∷ xs)) (tickets_in (n ∷ m ∷ xs))
      turn Stop Stop xs = IsPermutation-refl (tickets_in xs)
      turn Stop (Ticket ticket) xs = IsPermutation-refl (ticket ∷ tickets_in xs)
      turn (Ticket ticket) Stop xs = IsPermutation-refl (ticket ∷ tickets_in xs)
      turn (Ticket left) (Ticket right) xs = IsPermutation-middle (left ∷ []) right (tickets_in xs)
