-- Giving the state back, and serving the next ticket, keeps the rule.
use Rattle.std.proofs.Common.{◌≡◌, ℕ, ◌+◌, ◌%◌, ◌^◌, ◌≢◌, Bool, true, false, List, [], ◌∷◌, ◌++◌, length, refl, sym, ap, ◌∙◌, subst, arith, set, Some, None, inl, inr, drop}
use Rattle.std.proofs.Math.Nat.{mod-add-mod}
use Rattle.std.proofs.lemmas.List.{length-set, append-nil}
use Rattle.std.proofs.lemmas.List.Elements.{All-weaker}
use Rattle.std.specs.List.{slice_index}
use Rattle.std.specs.Option.{option_to_list, IfSome}
use Rattle.std.specs.declared.option.Option as std
use mathlib.Core.Option.{some}
use mathlib.Core.List.{IsPrefix}
use lib.ListN.{get_elem?}
use Rattle.atomic_table.specs.Table.{State, Act, gives, Valid, carried_after, homes_after}
use Rattle.seat_lock.specs.declared.opened.Opened.{Opened}
use Rattle.seat_lock.specs.declared.view.View.{View}
use Rattle.seat_lock.specs.declared.view.Phase.TheVariants.{Empty, Idle}
use Rattle.seat_lock.specs.History.{made_by, AddsAtMostOne, IsAccounted}
use Rattle.seat_lock.specs.Rule.{IsQueued, IsFit, KeepsLockRule, ticket_of, has_turn, spent_view}
use Rattle.seat_lock.specs.Steps.{Leaves, IsAware}
use Rattle.seat_lock.proofs.ViewLemmas.{changed, within, apart_after, tickets_after, fits_here, fits_after, left_after}
use Rattle.seat_lock.proofs.EntryLemmas.{else_after, mine_after, makers_after, behind}

-- a table of one slot has what was put there
pub one_home : {A : Type 0} (hs : List A) (y : A) → length hs ≡ 1 → set hs 0 y ≡ y ∷ []
one_home [] y len = absurd (omega (arith, len))
one_home (h ∷ []) y len = refl
one_home (h ∷ i ∷ hs) y len = absurd (omega (arith, len))

-- the value of an option
of_some : {A : Type 0} → std.Option A → A → A
of_some None d = d
of_some (Some a) d = a

-- two options that are there and equal have one value
pub same_some : {A : Type 0} (a b : A) → ◌≡◌ {A = std.Option A} (Some a) (Some b) → a ≡ b
unfolding of_some
same_some a b e = ap (λ o. of_some o a) e

module _ {S E T : Type 0} (stands : S → List E) (maker : E → ℕ) (setting : S → T) (key : Opened S) (s : State (std.Option S) (View E T)) (k : KeepsLockRule stands maker setting key s) (id : ℕ) (v : View E T) (x : S)
    (has : has_turn v.phase ≡ true) (is_set : v.setting ≡ Some (setting x)) (adds : AddsAtMostOne maker v.number v.seen (stands x)) (here : get_elem? s.views id ≡ some v) where
  was : IsFit maker (setting key.state) key.seats k.log s.views id v
  was = fits_here v (setting x) is_set (k.fits id v here)

  -- the seat has the ticket that is served, and has seen all
  turn : (ticket_of v.phase ≡ k.serving ∷ []) × (v.seen ≡ k.log)
  turn = (k.queued id v here).turn has

  -- the entry that came to the state, or none
  abbrev made : List E
  made = option_to_list adds.0

  -- the state stands for the history with it
  goes_on : stands x ≡ k.log ++ made
  goes_on = adds.1 ∙ ap (λ l. l ++ made) turn.1

  mine : IfSome adds.0 (λ e. maker e ≡ id)
  mine = subst (λ n. IfSome adds.0 (λ e. maker e ≡ n)) was.number adds.2

  on : IsPrefix k.log (stands x)
  on = (made, sym goes_on)

  -- the others made what they had
  others_made : (n : ℕ) → n ≢ id → made_by maker n (stands x) ≡ made_by maker n k.log
  others_made n ne = else_after maker k.log (stands x) id n adds.0 goes_on mine ne

  -- the seat, without a ticket and with the entry
  abbrev next : View E T
  next = record v { phase = Idle; own = v.own ++ drop (length v.seen) (stands x); seen = stands x }

  abbrev after : List (View E T)
  after = set s.views id next

  same_length : length s.views ≡ length after
  same_length = sym (length-set s.views id next)

  -- its own entries are its filter again
  own : v.own ++ drop (length v.seen) (stands x) ≡ made_by maker id (stands x)
  own = ap (λ l. v.own ++ l) (behind v.seen (stands x) made adds.1) ∙ (ap (λ l. l ++ made) was.own ∙ sym (mine_after maker k.log (stands x) id adds.0 goes_on mine))

  fit : IsFit maker (setting key.state) key.seats (stands x) after id next
  fit = record { number = was.number; seats_are = was.seats_are; is_set = was.is_set; own = own; seen = ([], append-nil (stands x)); joined = left_after maker (setting key.state) key.seats s.views id v next (setting x) here is_set k.log (stands x) on others_made v.joined was.joined }

  -- no other seat has the turn
  quiet : (j : ℕ) (u : View E T) → j ≢ id → get_elem? s.views j ≡ some u → has_turn u.phase ≡ true → ⊥
  quiet j u ne at h = ne (k.apart j id k.serving u v at here ((k.queued j u at).turn h).0 turn.0)

  queue : IsQueued (k.serving + 1) k.drawn (stands x) (length after) next
  queue = record { out = λ t q. absurd (cc); turn = λ h. absurd (cc); makes = λ n e. absurd (cc); first = λ e. absurd (cc) }

  queue_else : (j : ℕ) (u : View E T) → j ≢ id → get_elem? s.views j ≡ some u → IsQueued (k.serving + 1) k.drawn (stands x) (length after) u
  queue_else j u ne at =
      record {
        out = λ t q. let o = (k.queued j u at).out t q in let d : t ≢ k.serving = (λ e. ne (k.apart j id k.serving u v at here (q ∙ ap (λ m. m ∷ []) e) turn.0)) in (omega (arith, o.0, d), o.1);
        turn = λ h. absurd (quiet j u ne at h);
        makes = λ n e. (k.queued j u at).makes n e ∙ same_length;
        first = λ e. sym same_length ∙ (k.queued j u at).first e;
      }

  silent : (j : ℕ) (u : View E T) → j ≢ id → get_elem? s.views j ≡ some u → (b : Bool) → has_turn u.phase ≡ b → b ≡ false
  silent j u ne at true h = absurd (quiet j u ne at h)
  silent j u ne at false h = refl

  -- the rule holds after the step
  left : KeepsLockRule stands maker setting key (record { words = k.drawn % 2 ^ 64 ∷ (k.serving + 1) % 2 ^ 64 ∷ []; homes = some (Some x) ∷ []; views = after })
  left =
      record {
        drawn = k.drawn;
        serving = k.serving + 1;
        words = refl;
        count = let a = tickets_after s.views id v next here in let b : length (ticket_of v.phase) ≡ 1 = ap length turn.0 in omega (arith, k.count, a, b);
        apart = apart_after s.views k.apart id next (λ t j u ne at q r. absurd (cc));
        few = omega (arith, k.few, same_length);
        most = k.most;
        log = stands x;
        makers = makers_after maker key.seats k.log (stands x) id adds.0 goes_on mine (omega (arith, within s.views id v here, k.few)) k.makers;
        queued = changed (λ i u. IsQueued (k.serving + 1) k.drawn (stands x) (length after) u) s.views id next queue queue_else;
        fits = fits_after maker (setting key.state) key.seats s.views id v next (setting x) here is_set k.log (stands x) on others_made k.fits (inr fit);
        home = inl (x, refl, refl, same_some (setting x) (setting key.state) (sym is_set ∙ was.is_set), changed (λ i u. has_turn u.phase ≡ false) s.views id next refl (λ j u ne at. silent j u ne at (has_turn u.phase) refl));
        blank = changed (λ i u. u.phase ≡ Empty → some (Some x) ∷ [] ≡ some None ∷ []) s.views id next (λ e. absurd (cc)) (λ j u ne at e. absurd (quiet j u ne at (ap has_turn e)));
      }

  -- the seat has seen all that it and its joined seats made
  aware : IsAware maker next
  aware =
      record {
        own = own ∙ ap (λ n. made_by maker n (stands x)) (sym was.number);
        joined = All-weaker (λ j. (get_elem? after j.number ≡ some spent_view) × IsAccounted maker (stands x) j) (IsAccounted maker (stands x)) (λ j l. l.1) v.joined fit.joined;
      }

  -- what the step owes, where the words are these
  abbrev Outcome : List ℕ → Type 0
  Outcome ws = (w : View E T) × (a : Act (std.Option S)) × Valid s.homes ((0, Some x) ∷ []) a
      × KeepsLockRule stands maker setting key (record { words = set ws 1 ((slice_index ws 1 + 1) % 2 ^ 64); homes = homes_after s.homes ((0, Some x) ∷ []) a; views = set s.views id w })
      × Leaves stands maker (v, (0, Some x) ∷ []) (w, carried_after ((0, Some x) ∷ []) a)

  leaves : length s.homes ≡ 1 → Outcome (k.drawn % 2 ^ 64 ∷ k.serving % 2 ^ 64 ∷ [])
  leaves len = (next, gives, tt, rw (mod-add-mod k.serving (2 ^ 64) 1, one_home s.homes (some (Some x)) len) left, (refl, aware))

  -- whatever the table is, giving back keeps the rule
  pub leave_allows : length s.homes ≡ 1 → Outcome s.words
  leave_allows len = subst Outcome (sym k.words) (leaves len)
