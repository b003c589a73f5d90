-- Looking whose turn it is, and taking the state, keeps the rule.
use Rattle.std.proofs.Common.{◌≡◌, ℕ, ◌%◌, ◌^◌, ◌<◌, ◌≤◌, ◌==◌, Bool, true, false, List, [], ◌∷◌, length, refl, sym, ap, ◌∙◌, subst, arith, set, Some, None, inr, ⊎_elim}
use Rattle.std.proofs.lemmas.List.{length-set, append-nil}
use Rattle.std.proofs.Common.{eqb-true}
use Rattle.std.specs.List.{slice_index}
use Rattle.std.specs.declared.option.Option as std
use mathlib.Core.Option.{some, none, Option}
use mathlib.Core.List.{IsPrefix}
use lib.ListN.{get_elem?}
use Rattle.atomic_table.specs.Table.{State, Act, keeps, takes, Valid, carried_after, homes_after}
use Rattle.atomic_table.proofs.Lists.{one_turn, set_again, set_here}
use Rattle.seat_lock.specs.declared.opened.Opened.{Opened}
use Rattle.seat_lock.specs.declared.view.View.{View}
use Rattle.seat_lock.specs.declared.view.Phase.TheVariants.{Empty, Makes, Waits, Holds}
use Rattle.seat_lock.specs.Rule.{IsQueued, IsFit, KeepsLockRule, ticket_of, has_turn}
use Rattle.seat_lock.specs.Steps.{LooksForTurn, is_served, served}
use Rattle.seat_lock.proofs.ViewLemmas.{changed, within, one_there, one_ticket, prefix_self, apart_after, alone_with, tickets_after, tickets_few, fits_here, fits_after, left_after, queued_else}

module _ {S E T : Type 0} (stands : S → List E) (maker : E → ℕ) (setting : S → T) (key : Opened S) (s : State (std.Option S) (View E T)) (k : KeepsLockRule stands maker setting key s) (id t : ℕ) (v : View E T) (c : T) (waits : v.phase ≡ Waits t) (is_set : v.setting ≡ Some c) (here : get_elem? s.views id ≡ some v) where
  mine : ticket_of v.phase ≡ t ∷ []
  mine = ap ticket_of waits

  -- the ticket is one that is out
  out : (k.serving ≤ t) × (t < k.drawn)
  out = (k.queued id v here).out t mine

  -- the words agree only where the tickets do
  same_ticket : k.serving % 2 ^ 64 ≡ t % 2 ^ 64 → k.serving ≡ t
  same_ticket e = one_turn k.serving t (2 ^ 64) out.0 (omega (arith, out.1, k.count, tickets_few s.views, k.few, k.most)) e

  -- the seat with the turn and the state
  abbrev next : S → View E T
  next x = record v { phase = served v.phase; seen = stands x }

  module _ (x : S) (turn : k.serving ≡ t) (stands_for : stands x ≡ k.log) (quiet : (i : ℕ) (u : View E T) → get_elem? s.views i ≡ some u → has_turn u.phase ≡ false) where
    abbrev after : List (View E T)
    after = set s.views id (next x)

    has : served v.phase ≡ Holds t
    has = ap served waits

    its : ticket_of (served v.phase) ≡ k.serving ∷ []
    its = ap ticket_of has ∙ ap (λ n. n ∷ []) (sym turn)

    same_length : length s.views ≡ length after
    same_length = sym (length-set s.views id (next x))

    fit : IsFit maker (setting key.state) key.seats k.log after id (next x)
    fit = let f = fits_here v c is_set (k.fits id v here) in
        record { number = f.number; seats_are = f.seats_are; is_set = f.is_set; own = f.own; seen = ([], append-nil (stands x) ∙ stands_for); joined = left_after maker (setting key.state) key.seats s.views id v (next x) c here is_set k.log k.log (prefix_self k.log) (λ n ne. refl) v.joined f.joined }

    queue : IsQueued k.serving k.drawn k.log (length after) (next x)
    queue = record { out = λ n q. let d : k.serving ≡ n = one_ticket k.serving n (sym its ∙ q) in (omega (arith, d), omega (arith, d, turn, out.1)); turn = λ h. (its, stands_for); makes = λ n e. absurd (let no : Holds t ≡ Makes n = sym has ∙ e in cc); first = λ e. absurd (let no : Holds t ≡ Empty = sym has ∙ e in cc) }

    -- the rule holds with the state out
    took : KeepsLockRule stands maker setting key (record { words = k.drawn % 2 ^ 64 ∷ k.serving % 2 ^ 64 ∷ []; homes = none ∷ []; views = after })
    took =
        record {
          drawn = k.drawn;
          serving = k.serving;
          words = refl;
          count = let a = tickets_after s.views id v (next x) here in let b : length (ticket_of v.phase) ≡ 1 = ap length mine in let d : length (ticket_of (served v.phase)) ≡ 1 = ap length its in omega (arith, k.count, a, b, d);
          apart = apart_after s.views k.apart id (next x) (alone_with s.views k.apart id v (next x) here (λ n q. mine ∙ (ap (λ m. m ∷ []) (sym turn) ∙ (sym its ∙ q))));
          few = omega (arith, k.few, same_length);
          most = k.most;
          log = k.log;
          makers = k.makers;
          queued = changed (λ i u. IsQueued k.serving k.drawn k.log (length after) u) s.views id (next x) queue (λ j u ne at. queued_else k.serving k.drawn k.drawn k.log (length s.views) (length after) u same_length (omega arith) (k.queued j u at));
          fits = fits_after maker (setting key.state) key.seats s.views id v (next x) c here is_set k.log k.log (prefix_self k.log) (λ n ne. refl) k.fits (inr fit);
          home = inr (id, next x, set_here s.views id (next x) (within s.views id v here), ap has_turn has);
          blank = changed (λ i u. u.phase ≡ Empty → none ∷ [] ≡ some None ∷ []) s.views id (next x) (λ e. absurd (let no : Holds t ≡ Empty = sym has ∙ e in cc)) (λ j u ne at e. absurd (let no : true ≡ false = sym (ap has_turn e) ∙ quiet j u at in cc));
        }

  -- what the step owes, where the words and the slot are these
  abbrev Outcome : List ℕ → List (Option (std.Option S)) → Type 0
  Outcome ws hs = (w : View E T) × (a : Act (std.Option S)) × Valid hs [] a
      × KeepsLockRule stands maker setting key (record { words = set ws 1 (slice_index ws 1); homes = homes_after hs [] a; views = set s.views id w })
      × LooksForTurn stands setting (v, []) (slice_index ws 1) (w, carried_after [] a)

  -- the words by the rule
  abbrev Words : List ℕ
  Words = k.drawn % 2 ^ 64 ∷ k.serving % 2 ^ 64 ∷ []

  -- before its turn the seat changes nothing
  same : is_served v.phase (k.serving % 2 ^ 64) ≡ false → Outcome Words s.homes
  same wrong = (v, keeps, tt, subst (λ (p : List ℕ × List (View E T)). KeepsLockRule stands maker setting key (record { words = p.0; homes = s.homes; views = p.1 })) (λ i. (k.words i, sym (set_again s.views id v here) i)) k, rw wrong refl)

  -- at its turn the seat finds the state at home
  my_turn : is_served v.phase (k.serving % 2 ^ 64) ≡ true → k.serving ≡ t → Outcome Words s.homes
  my_turn now turn = ⊎_elim (λ h. at_home h.0 h.1 h.2 h.3 h.4) (λ h. absurd (away h.0 h.1 h.2 h.3)) k.home
    where
      at_home : (x : S) → s.homes ≡ some (Some x) ∷ [] → stands x ≡ k.log → setting x ≡ setting key.state → ((i : ℕ) (u : View E T) → get_elem? s.views i ≡ some u → has_turn u.phase ≡ false) → Outcome Words s.homes
      at_home x home stands_for sets quiet =
          let f = fits_here v c is_set (k.fits id v here) in
          subst (Outcome Words) (sym home) (
            next x,
            takes 0 (Some x),
            refl,
            took x turn stands_for quiet,
            rw now (record { state = x; is = refl; further = subst (IsPrefix v.seen) (sym stands_for) f.seen; is_set = f.is_set ∙ ap (λ z. Some z) (sym sets) }),
          )

      -- whoever has the turn has this very ticket
      away : (i : ℕ) (u : View E T) → get_elem? s.views i ≡ some u → has_turn u.phase ≡ true → ⊥
      away i u at h =
          let place : i ≡ id = k.apart i id t u v at here (((k.queued i u at).turn h).0 ∙ ap (λ n. n ∷ []) turn) mine in
          let no : false ≡ true = sym (ap has_turn waits) ∙ (ap (λ z. has_turn z.phase) (one_there s.views id v u here (ap (get_elem? s.views) (sym place) ∙ at)) ∙ h) in absurd (cc)

  by_case : (b : Bool) → ((k.serving % 2 ^ 64) == (t % 2 ^ 64)) ≡ b → Outcome Words s.homes
  by_case true is = my_turn (ap (λ p. is_served p (k.serving % 2 ^ 64)) waits ∙ is) (same_ticket (eqb-true (k.serving % 2 ^ 64) (t % 2 ^ 64) is))
  by_case false is = same (ap (λ p. is_served p (k.serving % 2 ^ 64)) waits ∙ is)

  -- whatever the table is, looking keeps the rule
  pub look_allows : Outcome s.words s.homes
  look_allows = subst (λ ws. Outcome ws s.homes) (sym k.words) (by_case ((k.serving % 2 ^ 64) == (t % 2 ^ 64)) refl)
