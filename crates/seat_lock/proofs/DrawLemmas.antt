-- Drawing a ticket keeps the rule.
use Rattle.std.proofs.Common.{◌≡◌, ℕ, ◌+◌, ◌%◌, ◌^◌, List, [], ◌∷◌, length, refl, sym, ap, subst, arith, set, Some, None, inr}
use Rattle.std.proofs.Math.Nat.{mod-add-mod}
use Rattle.std.proofs.lemmas.List.{length-set}
use Rattle.std.specs.List.{slice_index}
use Rattle.std.specs.declared.option.Option as std
use mathlib.Core.Option.{some}
use lib.ListN.{get_elem?}
use Rattle.atomic_table.specs.Table.{State, Act, keeps, Valid, carried_after, homes_after}
use Rattle.seat_lock.specs.declared.opened.Opened.{Opened}
use Rattle.seat_lock.specs.declared.view.View.{View}
use Rattle.seat_lock.specs.declared.view.Phase.TheVariants.{Empty, Idle, Waits}
use Rattle.seat_lock.specs.Rule.{IsQueued, IsFit, KeepsLockRule, ticket_of, has_turn}
use Rattle.seat_lock.specs.Steps.{Draws, in_phase}
use Rattle.seat_lock.proofs.ViewLemmas.{changed, one_ticket, prefix_self, apart_after, tickets_after, fits_here, fits_after, left_after, home_after, queued_else}

module _ {S E T : Type 0} (stands : S → List E) (maker : E → ℕ) (setting : S → T) (key : Opened S) (s : State (std.Option S) (View E T)) (k : KeepsLockRule stands maker setting key s) (id : ℕ) (v : View E T) (c : T) (idle : v.phase ≡ Idle) (is_set : v.setting ≡ Some c) (here : get_elem? s.views id ≡ some v) where
  -- the seat, with the ticket at the end of the row
  abbrev next : View E T
  next = in_phase v (Waits k.drawn)

  same_length : length s.views ≡ length (set s.views id next)
  same_length = sym (length-set s.views id next)

  -- what it knows fits as before
  fit : IsFit maker (setting key.state) key.seats k.log (set s.views id next) id next
  fit = let f = fits_here v c is_set (k.fits id v here) in
      record { number = f.number; seats_are = f.seats_are; is_set = f.is_set; own = f.own; seen = f.seen; joined = left_after maker (setting key.state) key.seats s.views id v next c here is_set k.log k.log (prefix_self k.log) (λ n ne. refl) v.joined f.joined }

  -- its ticket is one that is out
  queue : IsQueued k.serving (k.drawn + 1) k.log (length (set s.views id next)) next
  queue = record { out = λ t q. let d : k.drawn ≡ t = one_ticket k.drawn t q in (omega (arith, k.count, d), omega (arith, d)); turn = λ h. absurd (cc); makes = λ n e. absurd (cc); first = λ e. absurd (cc) }

  -- the rule holds after the draw
  drew : KeepsLockRule stands maker setting key (record { words = (k.drawn + 1) % 2 ^ 64 ∷ k.serving % 2 ^ 64 ∷ []; homes = s.homes; views = set s.views id next })
  drew =
      record {
        drawn = k.drawn + 1;
        serving = k.serving;
        words = refl;
        count = let a = tickets_after s.views id v next here in let b : length (ticket_of v.phase) ≡ 0 = ap (λ p. length (ticket_of p)) idle in omega (arith, k.count, a, b);
        apart = apart_after s.views k.apart id next (λ t j u ne at q r. let d : k.drawn ≡ t = one_ticket k.drawn t q in let o = (k.queued j u at).out t r in omega (arith, d, o.1));
        few = omega (arith, k.few, same_length);
        most = k.most;
        log = k.log;
        makers = k.makers;
        queued = changed (λ i u. IsQueued k.serving (k.drawn + 1) k.log (length (set s.views id next)) u) s.views id next queue (λ j u ne at. queued_else k.serving k.drawn (k.drawn + 1) k.log (length s.views) (length (set s.views id next)) u same_length (omega arith) (k.queued j u at));
        fits = fits_after maker (setting key.state) key.seats s.views id v next c here is_set k.log k.log (prefix_self k.log) (λ n ne. refl) k.fits (inr fit);
        home = home_after stands maker setting (setting key.state) k.log s.homes s.views id v next here (sym (ap has_turn idle)) k.home;
        blank = changed (λ i u. u.phase ≡ Empty → s.homes ≡ some None ∷ []) s.views id next (λ e. absurd (cc)) (λ j u ne at. k.blank j u at);
      }

  -- what the step owes, where the words are these
  abbrev Outcome : List ℕ → Type 0
  Outcome ws = (w : View E T) × (a : Act (std.Option S)) × Valid s.homes [] a
      × KeepsLockRule stands maker setting key (record { words = set ws 0 ((slice_index ws 0 + 1) % 2 ^ 64); homes = homes_after s.homes [] a; views = set s.views id w })
      × Draws {S = S} (v, []) (slice_index ws 0) (w, carried_after [] a)

  draws : Outcome (k.drawn % 2 ^ 64 ∷ k.serving % 2 ^ 64 ∷ [])
  draws = (next, keeps, tt, rw (mod-add-mod k.drawn (2 ^ 64) 1) drew, (k.drawn, refl, refl))

  -- whatever the table is, the draw keeps the rule
  pub draw_allows : Outcome s.words
  draw_allows = subst Outcome (sym k.words) draws
