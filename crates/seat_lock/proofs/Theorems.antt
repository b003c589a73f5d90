-- What crates above may cite: that an operation adds one entry at most, and what a turn says of the seat's own entries.
use Rattle.std.proofs.Common.{◌≡◌, ◌≢◌, ℕ, ◌==◌, Bool, true, false, List, [], ◌∷◌, ◌++◌, length, drop, Option, Some, None, cond, refl, sym, ap, ◌∙◌, eq-eqb}
use Rattle.std.proofs.lemmas.List.{append-nil, drop_at}
use Rattle.std.proofs.lemmas.List.Elements.{filter-append}
use Rattle.std.specs.List.{AllByRecursion}
use Rattle.std.specs.Option.{option_to_list}
use Rattle.seat_lock.specs.History.{SeatView, IsSeatTurn, AddsAtMostOne, made_by}
use Rattle.seat_lock.proofs.EntryLemmas.{made_mine}

-- an operation added none, one, or one where a test passed
module _ {E : Type 0} (maker : E → ℕ) (seat : ℕ) (before after : List E) where
  pub adds_none : after ≡ before → AddsAtMostOne maker seat before after
  adds_none same = (None, same ∙ sym (append-nil before), tt)

  pub adds_one : (e : E) → after ≡ before ++ e ∷ [] → maker e ≡ seat → AddsAtMostOne maker seat before after
  adds_one e more mine = (Some e, more, mine)

  pub adds_if : (b : Bool) (e : E) → after ≡ cond b (before ++ e ∷ []) before → maker e ≡ seat → AddsAtMostOne maker seat before after
  adds_if true e more mine = adds_one e more mine
  adds_if false e more mine = adds_none more

-- what stands behind one beginning is the same
cancel_left : {A : Type 0} (xs ys zs : List A) → xs ++ ys ≡ xs ++ zs → ys ≡ zs
cancel_left xs ys zs e = sym (drop_at xs ys (length xs) refl) ∙ (ap (drop (length xs)) e ∙ drop_at xs zs (length xs) refl)

-- a list without its last
abbrev but_last : {A : Type 0} → List A → List A
but_last [] = []
but_last (x ∷ []) = []
but_last (x ∷ y ∷ xs) = x ∷ but_last (y ∷ xs)

but_last-push : {A : Type 0} (xs : List A) (x : A) → but_last (xs ++ x ∷ []) ≡ xs
but_last-push [] x = refl
but_last-push (y ∷ []) x = refl
but_last-push (y ∷ z ∷ xs) x = ap (λ l. y ∷ l) (but_last-push (z ∷ xs) x)

-- what stands before one item or none is the same
cancel_made : {A : Type 0} (xs ys : List A) (m : Option A) → xs ++ option_to_list m ≡ ys ++ option_to_list m → xs ≡ ys
cancel_made xs ys None e = sym (append-nil xs) ∙ (e ∙ append-nil ys)
cancel_made xs ys (Some x) e = sym (but_last-push xs x) ∙ (ap but_last e ∙ but_last-push ys x)

-- where the history has none of a seat, others made all of it
module _ {E : Type 0} (maker : E → ℕ) (seat : ℕ) where
  one_of_others : (e : E) (es : List E) (b : Bool) → (maker e == seat) ≡ b → (made_by maker seat es ≡ [] → AllByRecursion (λ e. maker e ≢ seat) es) → made_by maker seat (e ∷ es) ≡ []
      → AllByRecursion (λ e. maker e ≢ seat) (e ∷ es)
  one_of_others e es true is rest none = let clash : ◌≡◌ {A = List E} (e ∷ made_by maker seat es) [] = ap (λ b. cond b (e ∷ made_by maker seat es) (made_by maker seat es)) (sym is) ∙ none in absurd (cc)
  one_of_others e es false is rest none =
      (λ q. let clash : false ≡ true = sym is ∙ eq-eqb (maker e) seat q in absurd (cc), rest (ap (λ b. cond b (e ∷ made_by maker seat es) (made_by maker seat es)) (sym is) ∙ none))

  pub made_by_others : (es : List E) → made_by maker seat es ≡ [] → AllByRecursion (λ e. maker e ≢ seat) es
  made_by_others [] none = tt
  made_by_others (e ∷ es) none = one_of_others e es (maker e == seat) refl (made_by_others es) none

-- a turn of a seat whose own entries were all that the history had of it
module _ {E T R : Type 0} {maker : E → ℕ} {means : T → List E → ℕ → R → List E → Type 0} {old new : SeatView E T} {reply : R}
    (aware : old.own ≡ made_by maker old.number old.seen) (turn : IsSeatTurn maker means old reply new) where
  -- what it made before is all that the history at the turn has of it
  pub own_before : old.own ≡ made_by maker old.number turn.before
  own_before = cancel_made old.own (made_by maker old.number turn.before) turn.made (sym turn.own ∙ (turn.filter ∙ (ap (made_by maker old.number) turn.seen
      ∙ (filter-append (λ e. maker e == old.number) turn.before (option_to_list turn.made)
      ∙ ap (λ l. made_by maker old.number turn.before ++ l) (made_mine maker old.number turn.made turn.mine)))))

  -- others made what stands between what it had seen and the turn
  pub others_between : AllByRecursion (λ e. maker e ≢ old.number) turn.behind.0
  others_between = made_by_others maker old.number turn.behind.0 (sym (cancel_left old.own [] (made_by maker old.number turn.behind.0) (append-nil old.own ∙ (own_before
      ∙ (ap (made_by maker old.number) (sym turn.behind.1) ∙ (filter-append (λ e. maker e == old.number) old.seen turn.behind.0 ∙ ap (λ l. l ++ made_by maker old.number turn.behind.0) (sym aware)))))))

-- the entry that a turn added to the history came to the seat's own, and no other
module _ {E T R : Type 0} {maker : E → ℕ} {means : T → List E → ℕ → R → List E → Type 0} {old new : SeatView E T} {reply : R} (turn : IsSeatTurn maker means old reply new) where
  pub own_with : (e : E) → new.seen ≡ turn.before ++ e ∷ [] → new.own ≡ old.own ++ e ∷ []
  own_with e is = turn.own ∙ ap (λ l. old.own ++ l) (cancel_left turn.before (option_to_list turn.made) (e ∷ []) (sym turn.seen ∙ is))

  pub own_same : new.seen ≡ turn.before → new.own ≡ old.own
  own_same is = turn.own ∙ (ap (λ l. old.own ++ l) (cancel_left turn.before (option_to_list turn.made) [] (sym turn.seen ∙ (is ∙ sym (append-nil turn.before)))) ∙ append-nil old.own)
