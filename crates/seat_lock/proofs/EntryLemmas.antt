-- What one more entry changes in what each seat made.
use Rattle.std.proofs.Common.{◌≡◌, ℕ, ◌<◌, ◌≢◌, ◌==◌, List, [], ◌∷◌, ◌++◌, length, refl, sym, ap, ◌∙◌, subst, Some, None, eq-eqb, ne_eqb, cond, drop}
use Rattle.std.proofs.lemmas.List.{append-nil, drop_at}
use Rattle.std.proofs.lemmas.List.Elements.{filter-append, All-append, All-nil, All-cons}
use Rattle.std.specs.List.{All}
use Rattle.std.specs.Option.{option_to_list, IfSome}
use Rattle.std.specs.declared.option.Option.{Option}
use Rattle.seat_lock.specs.History.{made_by}

module _ {E : Type 0} (maker : E → ℕ) where
  -- a seat made its own entry
  pub made_mine : (seat : ℕ) (m : Option E) → IfSome m (λ e. maker e ≡ seat) → made_by maker seat (option_to_list m) ≡ option_to_list m
  made_mine seat None h = refl
  made_mine seat (Some e) h = ap (λ b. cond b (e ∷ []) []) (eq-eqb (maker e) seat h)

  -- and no other seat did
  pub made_else : (seat n : ℕ) (m : Option E) → IfSome m (λ e. maker e ≡ seat) → n ≢ seat → made_by maker n (option_to_list m) ≡ []
  made_else seat n None h ne = refl
  made_else seat n (Some e) h ne = ap (λ b. cond b (e ∷ []) []) (ne_eqb (maker e) n (λ q. ne (sym q ∙ h)))

  -- another seat made the same entries as before
  pub else_after : (log after : List E) (seat n : ℕ) (m : Option E) → after ≡ log ++ option_to_list m → IfSome m (λ e. maker e ≡ seat) → n ≢ seat → made_by maker n after ≡ made_by maker n log
  else_after log after seat n m is h ne = ap (made_by maker n) is ∙ (filter-append (λ e. maker e == n) log (option_to_list m) ∙ (ap (λ l. made_by maker n log ++ l) (made_else seat n m h ne) ∙ append-nil (made_by maker n log)))

  -- the seat made one more
  pub mine_after : (log after : List E) (seat : ℕ) (m : Option E) → after ≡ log ++ option_to_list m → IfSome m (λ e. maker e ≡ seat) → made_by maker seat after ≡ made_by maker seat log ++ option_to_list m
  mine_after log after seat m is h = ap (made_by maker seat) is ∙ (filter-append (λ e. maker e == seat) log (option_to_list m) ∙ ap (λ l. made_by maker seat log ++ l) (made_mine seat m h))

  -- all entries are of a lock's seats, where the new one is
  pub makers_after : (seats : ℕ) (log after : List E) (seat : ℕ) (m : Option E) → after ≡ log ++ option_to_list m → IfSome m (λ e. maker e ≡ seat) → seat < seats → All (λ e. maker e < seats) log → All (λ e. maker e < seats) after
  makers_after seats log after seat m is h lt all = subst (All (λ e. maker e < seats)) (sym is) (All-append (λ e. maker e < seats) log (option_to_list m) all (one m h))
    where
      one : (m : Option E) → IfSome m (λ e. maker e ≡ seat) → All (λ e. maker e < seats) (option_to_list m)
      one None q = All-nil (λ e. maker e < seats)
      one (Some e) q = All-cons (λ e. maker e < seats) e [] (subst (λ n. n < seats) (sym q) lt) (All-nil (λ e. maker e < seats))

-- what stands behind a list's beginning
pub behind : {E : Type 0} (log after made : List E) → after ≡ log ++ made → drop (length log) after ≡ made
behind log after made is = ap (drop (length log)) is ∙ drop_at log made (length log) refl
