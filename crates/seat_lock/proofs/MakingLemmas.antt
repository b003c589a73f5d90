-- The lock begins under its rule, and the first seat makes the others under it.
use Rattle.std.proofs.Common.{◌≡◌, ℕ, ◌+◌, ◌<◌, ◌≤◌, ◌≢◌, ◌⊎◌, true, List, [], ◌∷◌, ◌++◌, length, refl, sym, ap, ◌∙◌, subst, arith, set, Some, None, inl, inr, ⊎_elim, zero, suc, length-append}
use Rattle.std.proofs.lemmas.List.{length-set}
use Rattle.std.proofs.lemmas.List.Elements.{All-weaker, All-nil}
use Rattle.std.specs.List.{slice_index}
use Rattle.std.specs.declared.option.Option as std
use mathlib.Core.Option.{some, none, Option, some-injective, some-ne-none}
use lib.ListN.{get_elem?}
use Rattle.atomic_table.specs.Table.{State, Act, takes, Valid, carried_after, homes_after, opening}
use Rattle.atomic_table.proofs.Lists.{set_here, at_longer}
use Rattle.seat_lock.specs.declared.opened.Opened.{Opened}
use Rattle.seat_lock.specs.declared.view.View.{View}
use Rattle.seat_lock.specs.declared.view.Phase.{Phase}
use Rattle.seat_lock.specs.declared.view.Phase.TheVariants.{Empty, Makes, Idle}
use Rattle.seat_lock.specs.History.{made_by, IsAccounted}
use Rattle.seat_lock.specs.Rule.{IsQueued, IsFit, KeepsLockRule, AreApart, ticket_of, has_turn, tickets, spent_view, first_view}
use Rattle.seat_lock.specs.Steps.{in_phase}
use Rattle.seat_lock.specs.Making.{Founds, founder, next_seat, made, more}
use Rattle.seat_lock.proofs.ViewLemmas.{changed, within, one_ticket, prefix_self, apart_after, alone_with, tickets_after, fits_here, fits_after, left_after, queued_else, IsLeft}

-- an element at a place of a list with one more stood there before, or is the last
pub at_end : {A : Type 0} (l : List A) (a b : A) (j : ℕ) → get_elem? (l ++ a ∷ []) j ≡ some b → (get_elem? l j ≡ some b) ⊎ ((j ≡ length l) × (a ≡ b))
at_end [] a b zero e = inr (refl, some-injective a b e)
at_end [] a b (suc j) e = absurd (some-ne-none b (sym e))
at_end (x ∷ xs) a b zero e = inl e
at_end (x ∷ xs) a b (suc j) e = ⊎_elim (λ h. inl h) (λ h. inr (ap suc h.0, h.1)) (at_end xs a b j e)

-- what holds of a last element, and of those before it, holds of each
pub grown : {A : Type 0} (P : ℕ → A → Type 0) (l : List A) (a : A) → P (length l) a → ((j : ℕ) (b : A) → get_elem? l j ≡ some b → P j b) → (j : ℕ) (b : A) → get_elem? (l ++ a ∷ []) j ≡ some b → P j b
grown {A} P l a last before j b e = ⊎_elim (λ h. before j b h) (λ (h : (j ≡ length l) × (a ≡ b)). subst (λ (z : ℕ × A). P z.0 z.1) (λ i. (sym h.0 i, h.1 i)) last) (at_end l a b j e)

-- a further view adds its ticket, if it has one
pub tickets_grown : {E T : Type 0} (vs : List (View E T)) (w : View E T) → tickets (vs ++ w ∷ []) ≡ tickets vs + length (ticket_of w.phase)
tickets_grown [] w = omega arith
tickets_grown (x ∷ xs) w = let r = tickets_grown xs w in omega (arith, r)

-- all tickets stay apart as a seat without one comes
pub apart_grown : {E T : Type 0} (vs : List (View E T)) (w : View E T) → w.phase ≡ Idle → AreApart vs → AreApart (vs ++ w ∷ [])
apart_grown {E} {T} vs w idle apart i j t u x ei ej tu tx = apart i j t u x (before i u ei tu) (before j x ej tx) tu tx
  where
    before : (n : ℕ) (y : View E T) → get_elem? (vs ++ w ∷ []) n ≡ some y → ticket_of y.phase ≡ t ∷ [] → get_elem? vs n ≡ some y
    before n y e q = ⊎_elim (λ h. h) (λ (h : (n ≡ length vs) × (w ≡ y)). absurd (let no : ◌≡◌ {A = List ℕ} [] (t ∷ []) = sym (ap ticket_of idle) ∙ (ap (λ z. ticket_of z.phase) h.1 ∙ q) in cc)) (at_end vs w y n e)

module _ {S E T : Type 0} (stands : S → List E) (maker : E → ℕ) (setting : S → T) (key : Opened S) where
  -- the rule holds at the start
  pub opened : 0 < key.seats → key.seats ≤ 64 → KeepsLockRule stands maker setting key (opening (1 ∷ 0 ∷ []) (None ∷ []) (first_view (setting key.state) key.seats))
  opened some_seats few =
      record {
        drawn = 1;
        serving = 0;
        words = refl;
        count = omega arith;
        apart = λ i j t u w ei ej tu tw. (only i u ei).0 ∙ sym (only j w ej).0;
        few = some_seats;
        most = few;
        log = [];
        makers = All-nil (λ e. maker e < key.seats);
        queued = λ i u e. subst (IsQueued 0 1 [] 1) (only i u e).1 queue;
        fits = λ i u e. inr (subst (λ (z : ℕ × View E T). IsFit maker (setting key.state) key.seats [] (first ∷ []) z.0 z.1) (λ n. (sym (only i u e).0 n, (only i u e).1 n)) fit);
        home = inr (0, first, refl, refl);
        blank = λ i u e q. refl;
      }
    where
      first : View E T
      first = first_view (setting key.state) key.seats

      only : (i : ℕ) (u : View E T) → get_elem? (first_view (setting key.state) key.seats ∷ []) i ≡ some u → (i ≡ 0) × (first_view (setting key.state) key.seats ≡ u)
      only zero u e = (refl, some-injective (first_view (setting key.state) key.seats) u e)
      only (suc i) u e = absurd (some-ne-none u (sym e))

      queue : IsQueued {E = E} {T = T} 0 1 [] 1 (first_view (setting key.state) key.seats)
      queue = record { out = λ t q. let d : 0 ≡ t = one_ticket 0 t q in (omega arith, omega (arith, d)); turn = λ h. (refl, refl); makes = λ n e. absurd (cc); first = λ e. refl }

      fit : IsFit maker (setting key.state) key.seats [] (first_view (setting key.state) key.seats ∷ []) 0 (first_view (setting key.state) key.seats)
      fit = record { number = refl; seats_are = refl; is_set = refl; own = refl; seen = prefix_self []; joined = All-nil (λ j. (get_elem? (first_view (setting key.state) key.seats ∷ []) j.number ≡ some spent_view) × IsAccounted maker [] j) }

  module _ (s : State (std.Option S) (View E T)) (k : KeepsLockRule stands maker setting key s) (id : ℕ) (v : View E T) (c : T) (is_set : v.setting ≡ Some c) (here : get_elem? s.views id ≡ some v) where
    was : IsFit maker (setting key.state) key.seats k.log s.views id v
    was = fits_here v c is_set (k.fits id v here)

    -- no other seat has the turn
    alone : has_turn v.phase ≡ true → (j : ℕ) (u : View E T) → j ≢ id → get_elem? s.views j ≡ some u → has_turn u.phase ≡ true → ⊥
    alone has j u ne at h = ne (k.apart j id k.serving u v at here ((k.queued j u at).turn h).0 ((k.queued id v here).turn has).0)

    -- what a seat knows fits in any phase
    fit_in : (p : Phase) → IsFit maker (setting key.state) key.seats k.log (set s.views id (in_phase v p)) id (in_phase v p)
    fit_in p = record { number = was.number; seats_are = was.seats_are; is_set = was.is_set; own = was.own; seen = was.seen; joined = left_after maker (setting key.state) key.seats s.views id v (in_phase v p) c here is_set k.log k.log (prefix_self k.log) (λ n ne. refl) v.joined was.joined }

    module _ (empty : v.phase ≡ Empty) where
      -- the first seat with the slot
      abbrev begun : View E T
      begun = in_phase v (Makes 1)

      abbrev begun_views : List (View E T)
      begun_views = set s.views id begun

      same_length : length s.views ≡ length begun_views
      same_length = sym (length-set s.views id begun)

      has : has_turn v.phase ≡ true
      has = ap has_turn empty

      its : ticket_of v.phase ≡ 0 ∷ []
      its = ap ticket_of empty

      queue : IsQueued k.serving k.drawn k.log (length begun_views) begun
      queue =
          let q = k.queued id v here in
          record { out = λ t e. q.out t (its ∙ e); turn = λ h. (sym its ∙ (q.turn has).0, (q.turn has).1); makes = λ n e. let d : 1 ≡ n = made_is 1 n e in sym d ∙ (sym (q.first empty) ∙ same_length); first = λ e. absurd (cc) }
        where
          made_is : (a b : ℕ) → Makes a ≡ Makes b → a ≡ b
          made_is a b e = ap made e

      -- the rule holds with the slot out
      founded : KeepsLockRule stands maker setting key (record { words = s.words; homes = none ∷ []; views = begun_views })
      founded =
          record {
            drawn = k.drawn;
            serving = k.serving;
            words = k.words;
            count = let a = tickets_after s.views id v begun here in let b : length (ticket_of v.phase) ≡ 1 = ap length its in omega (arith, k.count, a, b);
            apart = apart_after s.views k.apart id begun (alone_with s.views k.apart id v begun here (λ t q. its ∙ q));
            few = omega (arith, k.few, same_length);
            most = k.most;
            log = k.log;
            makers = k.makers;
            queued = changed (λ i u. IsQueued k.serving k.drawn k.log (length begun_views) u) s.views id begun queue (λ j u ne at. queued_else k.serving k.drawn k.drawn k.log (length s.views) (length begun_views) u same_length (omega arith) (k.queued j u at));
            fits = fits_after maker (setting key.state) key.seats s.views id v begun c here is_set k.log k.log (prefix_self k.log) (λ n ne. refl) k.fits (inr (fit_in (Makes 1)));
            home = inr (id, begun, set_here s.views id begun (within s.views id v here), refl);
            blank = changed (λ i u. u.phase ≡ Empty → none ∷ [] ≡ some None ∷ []) s.views id begun (λ e. absurd (cc)) (λ j u ne at e. absurd (alone has j u ne at (ap has_turn e)));
          }

      -- what the step owes, where the words and the slot are these
      abbrev Outcome : List ℕ → List (Option (std.Option S)) → Type 0
      Outcome ws hs = (w : View E T) × (a : Act (std.Option S)) × Valid hs [] a
          × KeepsLockRule stands maker setting key (record { words = ws; homes = homes_after hs [] a; views = set s.views id w })
          × Founds {S = S} (v, []) (w, carried_after [] a)

      -- whatever the table is, taking the empty slot keeps the rule
      pub found_allows : Outcome (set s.words 0 (slice_index s.words 0)) s.homes
      found_allows = subst (λ (p : List ℕ × List (Option (std.Option S))). Outcome p.0 p.1) (λ i. (same_words i, sym (k.blank id v here empty) i)) (begun, takes 0 None, refl, founded, refl)
        where
          same_words : s.words ≡ set s.words 0 (slice_index s.words 0)
          same_words = subst (λ ws. ws ≡ set ws 0 (slice_index ws 0)) (sym k.words) refl

    module _ (n : ℕ) (makes : v.phase ≡ Makes n) (below : n < v.seats) (unseen : v.seen ≡ []) where
      -- the first seat, once it has made one more
      abbrev left : View E T
      left = founder v

      -- the seat that it made
      abbrev right : View E T
      right = next_seat v

      abbrev firsts : List (View E T)
      firsts = set s.views id left

      abbrev all : List (View E T)
      all = firsts ++ right ∷ []

      has_the : has_turn v.phase ≡ true
      has_the = ap has_turn makes

      left_phase : left.phase ≡ Makes (n + 1)
      left_phase = ap more makes

      ticket : ticket_of v.phase ≡ 0 ∷ []
      ticket = ap ticket_of makes

      left_ticket : ticket_of left.phase ≡ 0 ∷ []
      left_ticket = ap ticket_of left_phase

      views_are : n ≡ length s.views
      views_are = (k.queued id v here).makes n makes

      firsts_are : length firsts ≡ length s.views
      firsts_are = length-set s.views id left

      all_are : length all ≡ length s.views + 1
      all_are = omega (arith, length-append firsts (right ∷ []), firsts_are)

      -- there is no entry yet
      no_log : k.log ≡ []
      no_log = sym ((k.queued id v here).turn has_the).1 ∙ unseen

      queue_left : IsQueued k.serving k.drawn k.log (length all) left
      queue_left =
          let q = k.queued id v here in
          record {
            out = λ t e. q.out t (ticket ∙ (sym left_ticket ∙ e));
            turn = λ h. (left_ticket ∙ (sym ticket ∙ (q.turn has_the).0), (q.turn has_the).1);
            makes = λ m e. let d : n + 1 ≡ m = ap made (sym left_phase ∙ e) in omega (arith, d, views_are, all_are);
            first = λ e. absurd (let no : Makes (n + 1) ≡ Empty = sym left_phase ∙ e in cc);
          }

      queue_other : (j : ℕ) (u : View E T) → j ≢ id → get_elem? s.views j ≡ some u → IsQueued k.serving k.drawn k.log (length all) u
      queue_other j u ne at =
          let q = k.queued j u at in
          record { out = q.out; turn = q.turn; makes = λ m e. absurd (alone has_the j u ne at (ap has_turn e)); first = λ e. absurd (alone has_the j u ne at (ap has_turn e)) }

      queue_right : IsQueued k.serving k.drawn k.log (length all) right
      queue_right = record { out = λ t e. absurd (cc); turn = λ h. absurd (cc); makes = λ m e. absurd (cc); first = λ e. absurd (cc) }

      -- what fits goes on fitting as a view is added
      longer : (j : ℕ) (u : View E T) → IsFit maker (setting key.state) key.seats k.log firsts j u → IsFit maker (setting key.state) key.seats k.log all j u
      longer j u f =
          record {
            number = f.number;
            seats_are = f.seats_are;
            is_set = f.is_set;
            own = f.own;
            seen = f.seen;
            joined = All-weaker (IsLeft maker (setting key.state) key.seats k.log firsts) (IsLeft maker (setting key.state) key.seats k.log all) (λ l i. (at_longer firsts (right ∷ []) l.number spent_view i.0, i.1)) u.joined f.joined;
          }

      -- the new seat fits: it has made nothing, and there is nothing
      fit_right : IsFit maker (setting key.state) key.seats k.log all (length firsts) right
      fit_right =
          record {
            number = ap made makes ∙ (views_are ∙ sym firsts_are);
            seats_are = was.seats_are;
            is_set = was.is_set;
            own = ap (made_by maker (length firsts)) (sym no_log);
            seen = was.seen;
            joined = All-nil (IsLeft maker (setting key.state) key.seats k.log all);
          }

      -- whatever the table is, making a seat keeps the rule
      pub split : KeepsLockRule stands maker setting key (record { words = s.words; homes = s.homes; views = all })
      split =
          record {
            drawn = k.drawn;
            serving = k.serving;
            words = k.words;
            count = let a = tickets_after s.views id v left here in let b : length (ticket_of v.phase) ≡ 1 = ap length ticket in let d : length (ticket_of left.phase) ≡ 1 = ap length left_ticket in omega (arith, k.count, a, b, d, tickets_grown firsts right);
            apart = apart_grown firsts right refl (apart_after s.views k.apart id left (alone_with s.views k.apart id v left here (λ t q. ticket ∙ (sym left_ticket ∙ q))));
            few = omega (arith, all_are, views_are, below, was.seats_are);
            most = k.most;
            log = k.log;
            makers = k.makers;
            queued = grown (λ i u. IsQueued k.serving k.drawn k.log (length all) u) firsts right queue_right (changed (λ i u. IsQueued k.serving k.drawn k.log (length all) u) s.views id left queue_left queue_other);
            fits = grown (λ i u. (u ≡ spent_view) ⊎ IsFit maker (setting key.state) key.seats k.log all i u) firsts right (inr fit_right)
                (λ j u at. ⊎_elim (λ e. inl e) (λ f. inr (longer j u f)) (fits_after maker (setting key.state) key.seats s.views id v left c here is_set k.log k.log (prefix_self k.log) (λ m ne. refl) k.fits (inr (fit_in (more v.phase))) j u at));
            home = inr (id, left, at_longer firsts (right ∷ []) id left (set_here s.views id left (within s.views id v here)), ap has_turn left_phase);
            blank = grown (λ i u. u.phase ≡ Empty → s.homes ≡ some None ∷ []) firsts right (λ e. absurd (cc)) (changed (λ i u. u.phase ≡ Empty → s.homes ≡ some None ∷ []) s.views id left (λ e. absurd (let no : Makes (n + 1) ≡ Empty = sym left_phase ∙ e in cc)) (λ j u ne at. k.blank j u at));
          }
