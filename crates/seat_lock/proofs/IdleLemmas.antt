-- The rule stays as a seat without a ticket learns something, or is spent.
use Rattle.std.proofs.Common.{◌≡◌, ℕ, ◌≢◌, ◌⊎◌, true, false, List, [], ◌∷◌, length, refl, sym, ap, ◌∙◌, subst, arith, set, Some, None, inl, inr, zero, suc}
use Rattle.std.proofs.lemmas.List.{length-set}
use Rattle.std.proofs.lemmas.List.Elements.{All-weaker, All-append, All-cons}
use Rattle.std.specs.List.{slice_index, All}
use Rattle.std.specs.declared.option.Option as std
use mathlib.Core.Option.{some}
use lib.ListN.{get_elem?}
use Rattle.atomic_table.specs.Table.{State, Act, keeps, Valid, carried_after, homes_after}
use Rattle.atomic_table.proofs.Lists.{set_here, set_else}
use Rattle.seat_lock.specs.declared.view.Left.{Left}
use Rattle.seat_lock.specs.declared.opened.Opened.{Opened}
use Rattle.seat_lock.specs.declared.view.View.{View}
use Rattle.seat_lock.specs.declared.view.Phase.TheVariants.{Empty, Makes, Idle}
use Rattle.seat_lock.specs.History.{made_by, IsAccounted}
use Rattle.seat_lock.specs.Rule.{IsQueued, IsFit, KeepsLockRule, ticket_of, has_turn, spent_view}
use Rattle.seat_lock.specs.Steps.{CatchesUp, both, joined_by}
use Rattle.seat_lock.proofs.ViewLemmas.{changed, within, prefix_self, apart_after, tickets_after, fits_here, fits_after, left_after, home_after, queued_else, IsLeft}

-- two changes at two places come in either order
pub set_swap : {A : Type 0} (l : List A) (i j : ℕ) (a b : A) → i ≢ j → set (set l i a) j b ≡ set (set l j b) i a
set_swap [] i j a b ne = refl
set_swap (x ∷ xs) zero zero a b ne = absurd (ne refl)
set_swap (x ∷ xs) zero (suc j) a b ne = refl
set_swap (x ∷ xs) (suc i) zero a b ne = refl
set_swap (x ∷ xs) (suc i) (suc j) a b ne = ap (λ l. x ∷ l) (set_swap xs i j a b (λ e. ne (ap suc e)))

module _ {S E T : Type 0} (stands : S → List E) (maker : E → ℕ) (setting : S → T) (key : Opened S) where
  abbrev St : Type 0
  St = State (std.Option S) (View E T)

  -- the table with another view at one place
  abbrev changed_to : St → ℕ → View E T → St
  changed_to s id w = record { words = s.words; homes = s.homes; views = set s.views id w }

  -- a seat without a ticket gets another view without a ticket
  pub rests : (s : St) (k : KeepsLockRule stands maker setting key s) (id : ℕ) (v w : View E T) (c : T) → v.phase ≡ Idle → w.phase ≡ Idle → v.setting ≡ Some c → get_elem? s.views id ≡ some v
      → (w ≡ spent_view) ⊎ IsFit maker (setting key.state) key.seats k.log (set s.views id w) id w → KeepsLockRule stands maker setting key (changed_to s id w)
  rests s k id v w c idle idle_then is_set here fit =
      record {
        drawn = k.drawn;
        serving = k.serving;
        words = k.words;
        count = let a = tickets_after s.views id v w here in let b : length (ticket_of v.phase) ≡ 0 = ap (λ p. length (ticket_of p)) idle in let d : length (ticket_of w.phase) ≡ 0 = ap (λ p. length (ticket_of p)) idle_then in omega (arith, k.count, a, b, d);
        apart = apart_after s.views k.apart id w (λ t j u ne at q r. absurd (no_ticket t q));
        few = omega (arith, k.few, same_length);
        most = k.most;
        log = k.log;
        makers = k.makers;
        queued = changed (λ i u. IsQueued k.serving k.drawn k.log (length (set s.views id w)) u) s.views id w queue (λ j u ne at. queued_else k.serving k.drawn k.drawn k.log (length s.views) (length (set s.views id w)) u same_length (omega arith) (k.queued j u at));
        fits = fits_after maker (setting key.state) key.seats s.views id v w c here is_set k.log k.log (prefix_self k.log) (λ n ne. refl) k.fits fit;
        home = home_after stands maker setting (setting key.state) k.log s.homes s.views id v w here (ap has_turn (idle_then ∙ sym idle)) k.home;
        blank = changed (λ i u. u.phase ≡ Empty → s.homes ≡ some None ∷ []) s.views id w (λ e. absurd (let no : Idle ≡ Empty = sym idle_then ∙ e in cc)) (λ j u ne at. k.blank j u at);
      }
    where
      same_length : length s.views ≡ length (set s.views id w)
      same_length = sym (length-set s.views id w)

      no_ticket : (t : ℕ) → ticket_of w.phase ≡ t ∷ [] → ⊥
      no_ticket t q = let no : ◌≡◌ {A = List ℕ} [] (t ∷ []) = sym (ap ticket_of idle_then) ∙ q in absurd (cc)

      queue : IsQueued k.serving k.drawn k.log (length (set s.views id w)) w
      queue =
          record {
            out = λ t q. absurd (no_ticket t q);
            turn = λ h. absurd (let no : false ≡ true = sym (ap has_turn idle_then) ∙ h in cc);
            makes = λ n e. absurd (let no : Idle ≡ Makes n = sym idle_then ∙ e in cc);
            first = λ e. absurd (let no : Idle ≡ Empty = sym idle_then ∙ e in cc);
          }

  module _ (s : St) (k : KeepsLockRule stands maker setting key s) (id : ℕ) (v : View E T) (c : T) (idle : v.phase ≡ Idle) (is_set : v.setting ≡ Some c) (here : get_elem? s.views id ≡ some v) where
    was : IsFit maker (setting key.state) key.seats k.log s.views id v
    was = fits_here v c is_set (k.fits id v here)

    -- the seat, with all of the history seen
    abbrev aware : View E T
    aware = record v { seen = k.log }

    fit : IsFit maker (setting key.state) key.seats k.log (set s.views id aware) id aware
    fit = record { number = was.number; seats_are = was.seats_are; is_set = was.is_set; own = was.own; seen = prefix_self k.log; joined = left_after maker (setting key.state) key.seats s.views id v aware c here is_set k.log k.log (prefix_self k.log) (λ n ne. refl) v.joined was.joined }

    -- what the step owes, where the words are these
    abbrev Outcome : List ℕ → Type 0
    Outcome ws = (w : View E T) × (a : Act (std.Option S)) × Valid s.homes [] a
        × KeepsLockRule stands maker setting key (record { words = ws; homes = homes_after s.homes [] a; views = set s.views id w })
        × CatchesUp {S = S} maker (v, []) (w, carried_after [] a)

    -- whatever the table is, learning the history keeps the rule
    pub catch_up_allows : Outcome (set s.words 0 (slice_index s.words 0))
    catch_up_allows =
        subst Outcome same_words (
          aware,
          keeps,
          tt,
          rests s k id v aware c idle idle is_set here (inr fit),
          record {
            is = refl;
            further = was.seen;
            aware = record { own = was.own ∙ ap (λ n. made_by maker n k.log) (sym was.number); joined = All-weaker (λ j. (get_elem? s.views j.number ≡ some spent_view) × IsAccounted maker k.log j) (IsAccounted maker k.log) (λ j l. l.1) v.joined was.joined };
          },
        )
      where
        same_words : s.words ≡ set s.words 0 (slice_index s.words 0)
        same_words = subst (λ ws. ws ≡ set ws 0 (slice_index ws 0)) (sym k.words) refl

    -- another seat is spent, and this one has what it leaves
    module _ (other : ℕ) (w : View E T) (d : T) (idle_too : w.phase ≡ Idle) (is_set_too : w.setting ≡ Some d) (ne : other ≢ id) (there : get_elem? s.views other ≡ some w) where
      was_too : IsFit maker (setting key.state) key.seats k.log s.views other w
      was_too = fits_here w d is_set_too (k.fits other w there)

      -- the table once the other seat is spent
      abbrev first : St
      first = changed_to s other spent_view

      first_kept : KeepsLockRule stands maker setting key first
      first_kept = rests s k other w spent_view d idle_too refl is_set_too there (inl refl)

      -- this seat is as before
      still : get_elem? (set s.views other spent_view) id ≡ some v
      still = set_else s.views other id spent_view (λ e. ne (sym e)) ∙ here

      -- the views once this seat has what the other leaves
      abbrev last : List (View E T)
      last = set (set s.views other spent_view) id (both v w)

      -- what earlier joined seats left stays
      lefts : (js : List (Left E)) → All (IsLeft maker (setting key.state) key.seats k.log s.views) js → All (IsLeft maker (setting key.state) key.seats k.log last) js
      lefts js all =
          left_after maker (setting key.state) key.seats (set s.views other spent_view) id v (both v w) c still is_set k.log k.log (prefix_self k.log) (λ n no. refl) js
          (left_after maker (setting key.state) key.seats s.views other w spent_view d there is_set_too k.log k.log (prefix_self k.log) (λ n no. refl) js all)

      -- what the other leaves is in order
      its : IsLeft maker (setting key.state) key.seats k.log last (joined_by w)
      its = (
        subst (λ n. get_elem? last n ≡ some spent_view) (sym was_too.number) (set_else (set s.views other spent_view) id other (both v w) ne ∙ set_here s.views other spent_view (within s.views other w there)),
        record { own = was_too.own ∙ ap (λ n. made_by maker n k.log) (sym was_too.number); seen = was_too.seen },
      )

      fit_both : IsFit maker (setting key.state) key.seats k.log last id (both v w)
      fit_both =
          record {
            number = was.number;
            seats_are = was.seats_are;
            is_set = was.is_set;
            own = was.own;
            seen = was.seen;
            joined = All-append (IsLeft maker (setting key.state) key.seats k.log last) v.joined (joined_by w ∷ w.joined) (lefts v.joined was.joined) (All-cons (IsLeft maker (setting key.state) key.seats k.log last) (joined_by w) w.joined its (lefts w.joined was_too.joined));
          }

      -- whatever the table is, the join keeps the rule
      pub merged : KeepsLockRule stands maker setting key (record { words = s.words; homes = s.homes; views = set (set s.views id (both v w)) other spent_view })
      unfolding first_kept rests
      merged = subst (λ vs. KeepsLockRule stands maker setting key (record { words = s.words; homes = s.homes; views = vs })) (sym (set_swap s.views id other (both v w) spent_view (λ e. ne (sym e)))) (rests first first_kept id v (both v w) c idle idle is_set still (inr fit_both))
