-- What stays true of the views as one of them changes.
use Rattle.std.proofs.Common.{◌≡◌, ℕ, ◌+◌, ◌<◌, ◌≤◌, ◌≢◌, ◌⊎◌, true, false, List, [], ◌∷◌, ◌++◌, length, refl, sym, ap, ◌∙◌, subst, arith, get_or, inl, inr, ⊎_elim, set, Some, None, IsSome, zero, suc, append_assoc}
use Rattle.std.proofs.lemmas.List.{append-nil}
use Rattle.std.proofs.lemmas.List.Elements.{All-weaker}
use Rattle.std.specs.List.{All}
use Rattle.std.specs.declared.option.Option.{Option}
use mathlib.Core.Option.{some, none, some-injective, some-ne-none}
use mathlib.Core.Option as opt
use mathlib.Core.List.{IsPrefix}
use mathlib.Core.Logic.{dite}
use native.Mathlib.Decide.{ℕ_discrete}
use lib.ListN.{get_elem?}
use Rattle.atomic_table.proofs.Lists.{at_set, set_else, set_here}
use Rattle.seat_lock.specs.declared.view.Left.{Left}
use Rattle.seat_lock.specs.declared.view.View.{View}
use Rattle.seat_lock.specs.declared.view.Phase.{Phase}
use Rattle.seat_lock.specs.declared.view.Phase.TheVariants.{Empty, Makes, Idle, Waits, Holds}
use Rattle.seat_lock.specs.History.{made_by, IsAccounted}
use Rattle.seat_lock.specs.Rule.{IsQueued, IsFit, IsHome, AreApart, spent_view, ticket_of, has_turn, tickets}

-- what holds of a changed element, and of the others as they were, holds of each
pub changed : {A : Type 0} (P : ℕ → A → Type 0) (l : List A) (i : ℕ) (a : A) → P i a → ((j : ℕ) (b : A) → j ≢ i → get_elem? l j ≡ some b → P j b)
    → (j : ℕ) (b : A) → get_elem? (set l i a) j ≡ some b → P j b
changed {A} P l i a mine others j b e =
    ⊎_elim (λ (t : (j ≡ i) × (a ≡ b)). subst (λ (z : ℕ × A). P z.0 z.1) (λ k. (sym t.0 k, t.1 k)) mine) (λ (t : (j ≢ i) × (get_elem? l j ≡ some b)). others j b t.0 t.1) (at_set l i j a b e)

-- an element that is there stands below the length
pub within : {A : Type 0} (l : List A) (i : ℕ) (a : A) → get_elem? l i ≡ some a → i < length l
within [] i a e = absurd (some-ne-none a (sym e))
within (x ∷ xs) zero a e = omega arith
within (x ∷ xs) (suc i) a e = let r = within xs i a e in omega (arith, r)

-- one element stands at one place
pub one_there : {A : Type 0} (l : List A) (i : ℕ) (a b : A) → get_elem? l i ≡ some a → get_elem? l i ≡ some b → a ≡ b
one_there l i a b e f = some-injective a b (sym e ∙ f)

-- one list of a ticket has one ticket
pub one_ticket : (a b : ℕ) → ◌≡◌ {A = List ℕ} (a ∷ []) (b ∷ []) → a ≡ b
one_ticket a b q = ap (λ l. get_or l 0 0) q

-- a list begins with itself
pub prefix_self : {A : Type 0} (xs : List A) → IsPrefix xs xs
prefix_self xs = ([], append-nil xs)

-- a beginning of a beginning is a beginning
pub prefix_trans : {A : Type 0} (xs ys zs : List A) → IsPrefix xs ys → IsPrefix ys zs → IsPrefix xs zs
prefix_trans xs ys zs p q = (p.0 ++ q.0, sym (append_assoc xs p.0 q.0) ∙ (ap (λ w. w ++ q.0) p.1 ∙ q.1))

-- a seat has one ticket at most
pub one_each : (p : Phase) → length (ticket_of p) ≤ 1
one_each Empty = omega arith
one_each (Makes n) = omega arith
one_each Idle = omega arith
one_each (Waits t) = omega arith
one_each (Holds t) = omega arith

module _ {E T : Type 0} where
  -- a view that changes leaves all tickets apart, where no other seat has its ticket
  pub apart_after : (vs : List (View E T)) → AreApart vs → (id : ℕ) (w : View E T) → ((t j : ℕ) (u : View E T) → j ≢ id → get_elem? vs j ≡ some u → ticket_of w.phase ≡ t ∷ [] → ticket_of u.phase ≡ t ∷ [] → ⊥) → AreApart (set vs id w)
  apart_after vs apart id w alone i j t u x ei ej tu tx =
      ⊎_elim
      (λ (a : (i ≡ id) × (w ≡ u)).
      ⊎_elim (λ (b : (j ≡ id) × (w ≡ x)). a.0 ∙ sym b.0) (λ (b : (j ≢ id) × (get_elem? vs j ≡ some x)). absurd (alone t j x b.0 b.1 (ap (λ z. ticket_of z.phase) a.1 ∙ tu) tx)) (at_set vs id j w x ej))
      (λ (a : (i ≢ id) × (get_elem? vs i ≡ some u)).
      ⊎_elim (λ (b : (j ≡ id) × (w ≡ x)). absurd (alone t i u a.0 a.1 (ap (λ z. ticket_of z.phase) b.1 ∙ tx) tu)) (λ (b : (j ≢ id) × (get_elem? vs j ≡ some x)). apart i j t u x a.1 b.1 tu tx) (at_set vs id j w x ej))
      (at_set vs id i w u ei)

  -- no other seat has the ticket that a seat has
  pub alone_with : (vs : List (View E T)) → AreApart vs → (id : ℕ) (v w : View E T) → get_elem? vs id ≡ some v → ((t : ℕ) → ticket_of w.phase ≡ t ∷ [] → ticket_of v.phase ≡ t ∷ [])
      → (t j : ℕ) (u : View E T) → j ≢ id → get_elem? vs j ≡ some u → ticket_of w.phase ≡ t ∷ [] → ticket_of u.phase ≡ t ∷ [] → ⊥
  alone_with vs apart id v w here had t j u ne at mine other = ne (apart j id t u v at here other (had t mine))

  -- as one view changes, the tickets out change with it
  pub tickets_after : (vs : List (View E T)) (id : ℕ) (v w : View E T) → get_elem? vs id ≡ some v → tickets (set vs id w) + length (ticket_of v.phase) ≡ tickets vs + length (ticket_of w.phase)
  tickets_after [] id v w e = absurd (some-ne-none v (sym e))
  tickets_after (x ∷ xs) zero v w e = let q : length (ticket_of x.phase) ≡ length (ticket_of v.phase) = ap (λ z. length (ticket_of z.phase)) (some-injective x v e) in omega (arith, q)
  tickets_after (x ∷ xs) (suc id) v w e = let r = tickets_after xs id v w e in omega (arith, r)

  -- no more tickets are out than there are views
  pub tickets_few : (vs : List (View E T)) → tickets vs ≤ length vs
  tickets_few [] = omega arith
  tickets_few (x ∷ xs) = let r = tickets_few xs in omega (arith, r, one_each x.phase)

  -- a view that has a setting is not spent
  pub not_spent : (v : View E T) (c : T) → v.setting ≡ Some c → v ≡ spent_view → ⊥
  not_spent v c s e = let no : ◌≡◌ {A = Option T} None (Some c) = sym (ap (λ z. z.setting) e) ∙ s in absurd (cc)

  -- and fits
  pub fits_here : {F : Type 0} (v : View E T) (c : T) → v.setting ≡ Some c → (v ≡ spent_view) ⊎ F → F
  fits_here v c s f = ⊎_elim (λ e. absurd (not_spent v c s e)) (λ x. x) f

  module _ (maker : E → ℕ) (setting : T) (seats : ℕ) where
    -- each view is spent or fits
    abbrev pub FitAll : List E → List (View E T) → Type 0
    FitAll log vs = (i : ℕ) (v : View E T) → get_elem? vs i ≡ some v → (v ≡ spent_view) ⊎ IsFit maker setting seats log vs i v

    -- a joined seat's place is spent, and its entries are accounted for
    abbrev pub IsLeft : List E → List (View E T) → Left E → Type 0
    IsLeft log vs j = (get_elem? vs j.number ≡ some spent_view) × IsAccounted maker log j

    -- what joined seats left stays, where a view changes that is not spent, and the history goes on with entries of that seat
    pub left_after : (vs : List (View E T)) (id : ℕ) (v w : View E T) (c : T) → get_elem? vs id ≡ some v → v.setting ≡ Some c → (log after : List E) → IsPrefix log after → ((n : ℕ) → n ≢ id → made_by maker n after ≡ made_by maker n log)
        → (js : List (Left E)) → All (IsLeft log vs) js → All (IsLeft after (set vs id w)) js
    left_after vs id v w c here is_set log after on same js all = All-weaker (IsLeft log vs) (IsLeft after (set vs id w)) one js all
      where
        one : (j : Left E) → IsLeft log vs j → IsLeft after (set vs id w) j
        one j l =
            let ne : j.number ≢ id = (λ e. not_spent v c is_set (one_there vs id v spent_view here (ap (get_elem? vs) (sym e) ∙ l.0))) in
            (set_else vs id j.number w ne ∙ l.0, record { own = l.1.own ∙ sym (same j.number ne); seen = prefix_trans j.seen log after l.1.seen on })

    -- all views fit, where one changes that is not spent, and the history goes on with entries of that seat
    pub fits_after : (vs : List (View E T)) (id : ℕ) (v w : View E T) (c : T) → get_elem? vs id ≡ some v → v.setting ≡ Some c → (log after : List E) → IsPrefix log after → ((n : ℕ) → n ≢ id → made_by maker n after ≡ made_by maker n log)
        → FitAll log vs → (w ≡ spent_view) ⊎ IsFit maker setting seats after (set vs id w) id w → FitAll after (set vs id w)
    fits_after vs id v w c here is_set log after on same all mine = changed (λ i u. (u ≡ spent_view) ⊎ IsFit maker setting seats after (set vs id w) i u) vs id w mine others
      where
        other : (j : ℕ) (u : View E T) → j ≢ id → IsFit maker setting seats log vs j u → IsFit maker setting seats after (set vs id w) j u
        other j u ne f =
            record {
              number = f.number;
              seats_are = f.seats_are;
              is_set = f.is_set;
              own = f.own ∙ sym (same j ne);
              seen = prefix_trans u.seen log after f.seen on;
              joined = left_after vs id v w c here is_set log after on same u.joined f.joined;
            }

        others : (j : ℕ) (u : View E T) → j ≢ id → get_elem? vs j ≡ some u → (u ≡ spent_view) ⊎ IsFit maker setting seats after (set vs id w) j u
        others j u ne at = ⊎_elim (λ e. inl e) (λ f. inr (other j u ne f)) (all j u at)

  -- where the state lies, and who has the turn, stays as a view changes in other things
  pub home_after : {S : Type 0} (stands : S → List E) (maker : E → ℕ) (setting : S → T) (c : T) (log : List E) (homes : List (opt.Option (Option S))) (vs : List (View E T)) (id : ℕ) (v w : View E T) → get_elem? vs id ≡ some v → has_turn w.phase ≡ has_turn v.phase
      → IsHome stands maker setting c log homes vs → IsHome stands maker setting c log homes (set vs id w)
  home_after stands maker setting c log homes vs id v w here same home =
      ⊎_elim
      (λ h. inl (h.0, h.1, h.2, h.3, changed (λ i u. has_turn u.phase ≡ false) vs id w (same ∙ h.4 id v here) (λ j u ne at. h.4 j u at)))
      (λ h. inr (moved h.0 h.1 h.2 h.3))
      home
    where
      moved : (i : ℕ) (u : View E T) → get_elem? vs i ≡ some u → has_turn u.phase ≡ true → (j : ℕ) × (x : View E T) × (get_elem? (set vs id w) j ≡ some x) × (has_turn x.phase ≡ true)
      moved i u at h =
          dite (ℕ_discrete i id)
          (λ e. (id, w, set_here vs id w (within vs id v here), same ∙ (ap (λ z. has_turn z.phase) (one_there vs id v u here (ap (get_elem? vs) (sym e) ∙ at)) ∙ h)))
          (λ ne. (i, u, set_else vs id i w ne ∙ at, h))

  -- the numbers of tickets and the history may grow behind those who do not have the turn
  pub queued_else : (serving drawn more : ℕ) (log : List E) (n m : ℕ) (u : View E T) → n ≡ m → drawn ≤ more → IsQueued serving drawn log n u → IsQueued serving more log m u
  queued_else serving drawn more log n m u same le q = record { out = λ t e. let o = q.out t e in (o.0, omega (arith, o.1, le)); turn = q.turn; makes = λ k e. q.makes k e ∙ same; first = λ e. sym same ∙ q.first e }

-- an option that is there has a value
pub some_setting : {A : Type 0} (o : Option A) → IsSome o → (a : A) × (o ≡ Some a)
some_setting None h = absurd (cc)
some_setting (Some a) h = (a, refl)
