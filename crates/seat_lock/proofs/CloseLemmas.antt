-- A seat that has all others knows the whole history.
use Rattle.std.proofs.Common.{◌≡◌, ℕ, ◌<◌, ◌⊎◌, ◌==◌, true, false, List, [], ◌∷◌, ◌++◌, map, refl, sym, ap, ◌∙◌, subst, arith, Some, ⊎_elim, eq-eqb, cond, IsSome}
use Rattle.std.proofs.lemmas.List.{append-nil, append_cancel_left}
use Rattle.std.proofs.lemmas.List.Elements.{All-map, All-contains, All-head, All-tail, filter-append}
use Rattle.std.specs.List.{All, Contains}
use Rattle.std.specs.declared.option.Option as std
use mathlib.Core.Option.{some}
use mathlib.Core.List.{IsPrefix}
use lib.ListN.{get_elem?}
use Rattle.atomic_table.specs.Table.{State, Final, Seen}
use Rattle.atomic_table.specs.Seated.{TableId}
use Rattle.seat_lock.specs.declared.view.Left.{Left}
use Rattle.seat_lock.specs.declared.opened.Opened.{Opened}
use Rattle.seat_lock.specs.declared.view.View.{View}
use Rattle.seat_lock.specs.declared.view.Phase.TheVariants.{Idle}
use Rattle.seat_lock.specs.History.{made_by, HasAll, IsWholeHistory}
use Rattle.seat_lock.specs.Rule.{IsFit, KeepsLockRule, has_turn, spent_view, seat_view}
use Rattle.seat_lock.specs.Steps.{IsAware}
use Rattle.seat_lock.proofs.ViewLemmas.{within, one_there, fits_here, some_setting}

module _ {E : Type 0} (maker : E → ℕ) where
  -- no entry is left where no seat made one
  pub nothing : (seats : ℕ) (log : List E) → All (λ e. maker e < seats) log → ((n : ℕ) → n < seats → made_by maker n log ≡ []) → log ≡ []
  nothing seats [] all empty = refl
  nothing seats (e ∷ log) all empty =
      let one : (e ∷ made_by maker (maker e) log) ≡ [] = sym (ap (λ b. cond b (e ∷ made_by maker (maker e) log) (made_by maker (maker e) log)) (eq-eqb (maker e) (maker e) refl)) ∙ empty (maker e) (All-head (λ e. maker e < seats) e log all) in
      absurd (cc)

  -- what holds of all elements of two lists holds of those of the second
  pub all_behind : {A : Type 0} (P : A → Type 0) (xs ys : List A) → All P (xs ++ ys) → All P ys
  all_behind P [] ys all = all
  all_behind P (x ∷ xs) ys all = all_behind P xs ys (All-tail P x (xs ++ ys) all)

  -- a beginning is the whole where it has as much of each seat
  pub whole : (seats : ℕ) (seen log : List E) → IsPrefix seen log → All (λ e. maker e < seats) log → ((n : ℕ) → n < seats → made_by maker n log ≡ made_by maker n seen) → log ≡ seen
  whole seats seen log p all same =
      let rest : p.0 ≡ [] = nothing seats p.0 (all_behind (λ e. maker e < seats) seen p.0 (subst (All (λ e. maker e < seats)) (sym p.1) all)) empty in
      sym p.1 ∙ (ap (λ l. seen ++ l) rest ∙ append-nil seen)
    where
      -- the rest of the history has nothing of any seat
      empty : (n : ℕ) → n < seats → made_by maker n p.0 ≡ []
      empty n lt = append_cancel_left (made_by maker n seen) (made_by maker n p.0) [] (sym (filter-append (λ e. maker e == n) seen p.0) ∙ (ap (made_by maker n) p.1 ∙ (same n lt ∙ sym (append-nil (made_by maker n seen)))))

module _ {S E T : Type 0} (stands : S → List E) (maker : E → ℕ) (setting : S → T) (key : Opened S) (lock : TableId) (s : State (std.Option S) (View E T)) (k : KeepsLockRule stands maker setting key s) (id : ℕ) (v : View E T) (c : T)
    (here : get_elem? s.views id ≡ some v) (idle : v.phase ≡ Idle) (is_set : v.setting ≡ Some c) (aware : IsAware maker v) (has : HasAll (seat_view lock v)) where
  -- the seat fits the history
  was : IsFit maker (setting key.state) key.seats k.log s.views id v
  was = fits_here v c is_set (k.fits id v here)

  -- each seat is this one or is spent
  each : (n : ℕ) → n < key.seats → (n ≡ v.number) ⊎ Contains (map (λ j. j.number) v.joined) n
  each n lt = has n (omega (arith, lt, was.seats_are))

  -- the place of a joined seat is spent
  spent_there : (n : ℕ) → Contains (map (λ j. j.number) v.joined) n → get_elem? s.views n ≡ some spent_view
  spent_there n at = All-contains (λ m. get_elem? s.views m ≡ some spent_view) (map (λ j. j.number) v.joined) n
      (All-map (λ m. get_elem? s.views m ≡ some spent_view) (λ (j : Left E). j.number) v.joined (λ i d lt. (was.joined i d lt).0)) at

  -- so none has the turn
  quiet : (i : ℕ) (u : View E T) → get_elem? s.views i ≡ some u → has_turn u.phase ≡ true → ⊥
  quiet i u at h =
      ⊎_elim
      (λ (e : i ≡ v.number). let no : false ≡ true = sym (ap has_turn idle) ∙ (ap (λ z. has_turn z.phase) (one_there s.views id v u here (ap (get_elem? s.views) (sym (e ∙ was.number)) ∙ at)) ∙ h) in absurd (cc))
      (λ (e : Contains (map (λ j. j.number) v.joined) i). let no : false ≡ true = ap (λ z. has_turn z.phase) (one_there s.views i spent_view u (spent_there i e) at) ∙ h in absurd (cc))
      (each i (omega (arith, within s.views i u at, k.few)))

  -- the seat has seen all that each seat made
  same : (n : ℕ) → n < key.seats → made_by maker n k.log ≡ made_by maker n v.seen
  same n lt =
      ⊎_elim
      (λ (e : n ≡ v.number). subst (λ m. made_by maker m k.log ≡ made_by maker m v.seen) (sym e) (ap (λ m. made_by maker m k.log) was.number ∙ (sym was.own ∙ aware.own)))
      (λ (e : Contains (map (λ j. j.number) v.joined) n).
      All-contains (λ m. made_by maker m k.log ≡ made_by maker m v.seen) (map (λ j. j.number) v.joined) n
      (All-map (λ m. made_by maker m k.log ≡ made_by maker m v.seen) (λ (j : Left E). j.number) v.joined (λ i d lt. sym (was.joined i d lt).1.own ∙ (aware.joined i d lt).own)) e)
      (each n lt)

  -- so it has seen the whole history
  all_seen : k.log ≡ v.seen
  all_seen = whole maker key.seats v.seen k.log was.seen k.makers same

  -- and accounts for it
  whole_log : IsWholeHistory maker (seat_view lock v) k.log
  whole_log =
      record {
        seen = all_seen;
        own = was.own ∙ ap (λ n. made_by maker n k.log) (sym was.number);
        joined = λ i d lt. (was.joined i d lt).1;
        makers = subst (λ n. All (λ e. maker e < n) k.log) (sym was.seats_are) k.makers;
      }

  -- the state is at home, and is what the seat knows
  pub closes : (x : S) × (s.homes ≡ some (Some x) ∷ []) × IsWholeHistory maker (seat_view lock v) (stands x) × (v.setting ≡ Some (setting x))
  closes =
      ⊎_elim
      (λ h. (h.0, h.1, subst (IsWholeHistory maker (seat_view lock v)) (sym h.2) whole_log, was.is_set ∙ ap (λ z. Some z) (sym h.3)))
      (λ h. absurd (quiet h.0 h.1 h.2 h.3))
      k.home

-- what comes out of the slot at the end is the state
pub found_is : {S E T : Type 0} (stands : S → List E) (maker : E → ℕ) (setting : S → T) (key : Opened S) (lock : TableId) (id : ℕ) (v : View E T) (words : List ℕ) (slots : List (std.Option S)) (found : std.Option S)
    → v.phase ≡ Idle → IsSome v.setting → IsAware maker v → HasAll (seat_view lock v) → Final (Seen (KeepsLockRule stands maker setting key) id v) words slots → get_elem? slots 0 ≡ some found
    → (x : S) × (found ≡ Some x) × IsWholeHistory maker (seat_view lock v) (stands x) × (v.setting ≡ Some (setting x))
found_is stands maker setting key lock id v words slots found idle is_set aware has final at =
    let c = some_setting v.setting is_set in
    let end = closes stands maker setting key lock final.0 final.1.0 id v c.0 final.1.1 idle c.1 aware has in
    (end.0, one_there slots 0 found (Some end.0) at (final.4 0 (Some end.0) (ap (λ hs. get_elem? hs 0) end.1)), end.2, end.3)
