-- A whole table behind one entry: what the entry makes of each row.
use Rattle.channel_table.proofs.Base.{◌≡◌, ◌∙◌, ℕ, true, false, List, [], ◌∷◌, ◌++◌, Option, Some, None, refl, ap, ap₂, sym, subst, map, map-append, filter-append, AllByRecursion, filter, filter_map, flat_map, is_none, is_some, not, Answer, What, completed_by, left_by, taken_by, Attempt, begun_by, closes, in_flight, Past, accepted_by, Setting, as_many-filter, in_flight-closed, HaveAsMany, StandFor}
use Rattle.channel_model.proofs.Theorems.{completed-behind, pending-behind}

-- what an entry makes of a row: another row, or a ticket
pub data Outcome (R K : Type 0) : Type 0 where
  stays : R → R → Outcome R K
  ends : R → K → Outcome R K

module _ {R K : Type 0} where
  -- the row before
  abbrev pub row_of : Outcome R K → R
  row_of (stays row new) = row
  row_of (ends row ticket) = row

  -- the row behind, where it stays
  abbrev pub row_behind : Outcome R K → Option R
  row_behind (stays row new) = Some new
  row_behind (ends row ticket) = None

  -- its ticket, where it ends
  abbrev pub ticket_behind : Outcome R K → Option K
  ticket_behind (stays row new) = None
  ticket_behind (ends row ticket) = Some ticket

  -- a table of these rows becomes one of those, and these tickets get ready
  pub record Becomes (outcomes : List (Outcome R K)) (old new : List R) (tickets : List K) : Type 0 where
    pub rows_before : old ≡ map row_of outcomes
    pub rows_behind : new ≡ filter_map row_behind outcomes
    pub tickets_behind : tickets ≡ filter_map ticket_behind outcomes

module _ {R K : Type 0} (number : R → ℕ) (ticket_number : K → ℕ) (flown : R → List Attempt) (setting : Setting) (what : What) (past : Past) where
  -- what the entry leaves of these attempts
  abbrev pub left_of : List Attempt → List Attempt
  left_of attempts = filter (λ a. not (closes setting a what past)) attempts

  -- the row and what becomes of it are as the entry has it: a row that stays isn't completed, one that ends is; and its attempt is what the entry leaves of it
  abbrev pub Follows : Outcome R K → Type 0
  Follows (stays row new) = (number new ≡ number row) × (completed_by setting (number row) what past ≡ None) × (flown new ≡ left_of (flown row))
  Follows (ends row ticket) = (ticket_number ticket ≡ number row) × (is_some (completed_by setting (number row) what past) ≡ true) × (left_of (flown row) ≡ [])

  some_not_none : (o : Option Answer) → is_some o ≡ true → is_none o ≡ false
  some_not_none None e = absurd cc
  some_not_none (Some a) e = refl

  stay_pending : (outcomes : List (Outcome R K)) → AllByRecursion Follows outcomes
      → filter (λ n. is_none (completed_by setting n what past)) (map number (map row_of outcomes)) ≡ map number (filter_map row_behind outcomes)
  stay_pending [] each = refl
  stay_pending (stays row new ∷ outcomes) each = rw (each.0.1, each.0.0, stay_pending outcomes each.1) refl
  stay_pending (ends row ticket ∷ outcomes) each = rw (some_not_none (completed_by setting (number row) what past) each.0.1) (stay_pending outcomes each.1)

  get_ready : (outcomes : List (Outcome R K)) → AllByRecursion Follows outcomes
      → filter (λ n. is_some (completed_by setting n what past)) (map number (map row_of outcomes)) ≡ map ticket_number (filter_map ticket_behind outcomes)
  get_ready [] each = refl
  get_ready (stays row new ∷ outcomes) each = rw each.0.1 (get_ready outcomes each.1)
  get_ready (ends row ticket ∷ outcomes) each = rw (each.0.1, each.0.0, get_ready outcomes each.1) refl

  stay_flying : (outcomes : List (Outcome R K)) → AllByRecursion Follows outcomes → left_of (flat_map flown (map row_of outcomes)) ≡ flat_map flown (filter_map row_behind outcomes)
  stay_flying [] each = refl
  stay_flying (stays row new ∷ outcomes) each =
      filter-append (λ a. not (closes setting a what past)) (flown row) (flat_map flown (map row_of outcomes)) ∙ ap₂ (λ xs ys. xs ++ ys) (sym each.0.2) (stay_flying outcomes each.1)
  stay_flying (ends row ticket ∷ outcomes) each =
      filter-append (λ a. not (closes setting a what past)) (flown row) (flat_map flown (map row_of outcomes)) ∙ ap₂ (λ xs ys. xs ++ ys) each.0.2 (stay_flying outcomes each.1)

  -- behind an entry that accepts and begins nothing a table stands for the past in which each row has become what the entry makes of it
  pub stands_behind : (outcomes : List (Outcome R K)) (old new : List R) (tickets left more : List K) → accepted_by what ≡ None → begun_by what ≡ None
      → left_by (taken_by what) (map ticket_number tickets) ≡ map ticket_number left
      → Becomes outcomes old new more → AllByRecursion Follows outcomes → StandFor number ticket_number flown setting past old tickets → StandFor number ticket_number flown setting (what ∷ past) new (left ++ more)
  stands_behind outcomes old new tickets left more accepts begins takes becomes each stands = record {
    pending_are = pending-behind setting what past accepts ∙ ap (filter (λ n. is_none (completed_by setting n what past))) (stands.pending_are ∙ ap (map number) becomes.rows_before)
        ∙ stay_pending outcomes each ∙ ap (map number) (sym becomes.rows_behind);
    ready_are = ap₂ (λ xs ys. xs ++ ys) (ap (left_by (taken_by what)) stands.ready_are ∙ takes)
        (completed-behind setting what past accepts ∙ ap (filter (λ n. is_some (completed_by setting n what past))) (stands.pending_are ∙ ap (map number) becomes.rows_before) ∙ get_ready outcomes each ∙ ap (map ticket_number) (sym becomes.tickets_behind))
        ∙ sym (map-append ticket_number left more);
    flying_are =
        let closed = in_flight-closed setting what past begins in
        let kept : filter (λ a. not (closes setting a what past)) (flat_map flown old) ≡ flat_map flown new =
        ap (λ rows. filter (λ a. not (closes setting a what past)) (flat_map flown rows)) becomes.rows_before ∙ stay_flying outcomes each ∙ ap (flat_map flown) (sym becomes.rows_behind) in
        subst (λ xs. HaveAsMany xs (flat_map flown new)) (sym closed) (subst (HaveAsMany (filter (λ a. not (closes setting a what past)) (in_flight setting past))) kept
        (as_many-filter (λ a. not (closes setting a what past)) (in_flight setting past) (flat_map flown old) stands.flying_are));
  }
