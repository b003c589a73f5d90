-- Rows that an entry doesn't concern, and a table of which one row changes.
use Rattle.channel_table.proofs.Base.{◌≡◌, ◌∙◌, ℕ, Bool, true, false, List, [], ◌∷◌, ◌++◌, Option, Some, None, refl, ap, ap₂, sym, subst, map, length, cond, eq-eqb, append-nil, map-append, filter-append, filter_map-append, AllByRecursion, IfSome, IsFalse, filter, flat_map, not, option_map, option_to_list, What, Take, Script, Ticket, Spares, request_of-later, spec_of-later, completed_by, left_by, Attempt, begun_by, closes, flight, has_leg, is_of_leg, started, unless_closed, with_leg, Accepted, Past, spec_of, LegFacts, Leg, leg_of, search_answer, Setting, LegStands, flown_by, RowStands, LookupStands, StandFor, TableStands, flown, number_of, lookups, ticket_number, flown_lookup, flying_of, leg_of_lookup, Lookup, Spec, Name, Row}
use Rattle.channel_model.proofs.Theorems.{spared-end, spared-facts, take_spares, unless_closed-spared}
use Rattle.query_machine.specs.declared.leg.Leg as machine
use Rattle.channel_table.proofs.Outcomes.{Becomes, Follows, Outcome, row_behind, row_of, stands_behind, stays, ticket_behind}
use Rattle.channel_table.proofs.RowAnswers.{row_answers}
use Rattle.channel_table.proofs.SearchSteps.{no_answer, passed_stay}
use Rattle.channel_table.proofs.LookupLists.{LegOf, legs_stand}
use Rattle.channel_table.proofs.TableSteps.{Stands, tickets_later}

-- a leg that an entry doesn't concern stands as before
pub leg_spared : (setting : Setting) (what : What) (past : Past) (leg : Leg) (state : machine.Leg) (reply : List ℕ) → Spares setting what past leg → LegStands setting past leg state reply → LegStands setting (what ∷ past) leg state reply
leg_spared setting what past leg state reply spared stands = record {
  facts = spared-facts setting what past leg spared ∙ stands.facts;
  ends = spared-end setting what past leg spared ∙ stands.ends;
  few = stands.few;
}

-- an entry that doesn't begin an attempt of the leg leaves it with a Start or without
pub begun_other : (leg : Leg) (o : Option Attempt) (legs : List Leg) → IfSome o (λ a. IsFalse (is_of_leg leg a)) → has_leg leg (with_leg o legs) ≡ has_leg leg legs
begun_other leg None legs spared = refl
begun_other leg (Some a) legs spared = by_test (has_leg a.leg legs)
  where
    by_test : (b : Bool) → has_leg leg (cond b legs (a.leg ∷ legs)) ≡ has_leg leg legs
    by_test true = refl
    by_test false = rw spared refl

module _ (setting : Setting) (what : What) (past : Past) where
  -- so does a lookup
  pub lookup_spared : (number : ℕ) (spec : Spec) (name : Name) (rest : List Name) (lookup : Lookup) → Spares setting what past (leg_of_lookup lookup) → LookupStands setting past number spec name rest lookup → LookupStands setting (what ∷ past) number spec name rest lookup
  lookup_spared number spec name rest lookup spared stands = record {
    numbered = stands.numbered;
    current = stands.current;
    behind = stands.behind;
    asks = stands.asks;
    leg = leg_spared setting what past (leg_of_lookup lookup) lookup.leg lookup.reply spared stands.leg;
    begun = begun_other (leg_of_lookup lookup) (begun_by what) (started past) spared.begins_other ∙ stands.begun;
  }

  -- an entry doesn't concern the leg of a lookup
  abbrev pub SparesLookup : Lookup → Type 0
  SparesLookup lookup = Spares setting what past (leg_of_lookup lookup)

  pub lookups_spared : (number : ℕ) (spec : Spec) (name : Name) (rest : List Name) (ss : List Lookup) → AllByRecursion SparesLookup ss → AllByRecursion (LookupStands setting past number spec name rest) ss → AllByRecursion (LookupStands setting (what ∷ past) number spec name rest) ss
  lookups_spared number spec name rest [] spared each = tt
  lookups_spared number spec name rest (lookup ∷ ss) spared each = (lookup_spared number spec name rest lookup spared.0 each.0, lookups_spared number spec name rest ss spared.1 each.1)

  -- what an entry leaves of an attempt, if there is one
  pub left_one : (o : Option Attempt) → filter (λ a. not (closes setting a what past)) (option_to_list o) ≡ option_to_list (unless_closed setting what past o)
  left_one None = refl
  left_one (Some a) = by_test (closes setting a what past)
    where
      by_test : (b : Bool) → cond (not b) (a ∷ []) [] ≡ option_to_list (cond b None (Some a))
      by_test true = refl
      by_test false = refl

  -- the attempt of a lookup in flight
  pub flight_of_lookup : (lookup : Lookup) → LegOf setting past lookup → flight setting (leg_of_lookup lookup) past ≡ flown_by (leg_of_lookup lookup) (flying_of lookup)
  flight_of_lookup lookup stands = ap (λ (f : LegFacts). f.flies) stands.facts

  -- it is left by an entry that doesn't concern the lookup
  pub lookup_left : (lookup : Lookup) → Spares setting what past (leg_of_lookup lookup) → LegOf setting past lookup → filter (λ a. not (closes setting a what past)) (flown_lookup lookup) ≡ flown_lookup lookup
  lookup_left lookup spared stands =
      left_one (flown_by (leg_of_lookup lookup) (flying_of lookup))
      ∙ ap option_to_list (subst (λ o. unless_closed setting what past o ≡ o) (flight_of_lookup lookup stands) (unless_closed-spared setting what past (flight setting (leg_of_lookup lookup) past) spared.closes_none))

  pub lookups_left : (ss : List Lookup) → AllByRecursion SparesLookup ss → AllByRecursion (LegOf setting past) ss → filter (λ a. not (closes setting a what past)) (flat_map flown_lookup ss) ≡ flat_map flown_lookup ss
  lookups_left [] spared each = refl
  lookups_left (lookup ∷ ss) spared each =
      filter-append (λ a. not (closes setting a what past)) (flown_lookup lookup) (flat_map flown_lookup ss) ∙ ap₂ (λ xs ys. xs ++ ys) (lookup_left lookup spared.0 each.0) (lookups_left ss spared.1 each.1)

module _ {T : Type 0} (plan : T → Script) (setting : Setting) (what : What) (past : Past) where
  -- what a row's request asks
  pub spec_of_row : (row : Row T) (stands : RowStands plan setting past row) → spec_of row.number past ≡ Some stands.spec
  spec_of_row row stands = ap (option_map (λ (r : Accepted). r.spec)) stands.accepts

  -- the entry begins no attempt of the request
  abbrev pub BeginsOther : ℕ → Type 0
  BeginsOther request = (k : ℕ) → IfSome (begun_by what) (λ a. IsFalse (is_of_leg (leg_of request k) a))

  -- a row that an entry doesn't concern and doesn't complete stands as before
  pub row_spared : (row : Row T) → AllByRecursion (SparesLookup setting what past) (lookups row) → BeginsOther row.number → completed_by setting row.number what past ≡ None → RowStands plan setting past row → RowStands plan setting (what ∷ past) row
  row_spared row spared others completes stands =
      let stay = passed_stay setting row.number stands.spec what past 0 stands.passed stands.came in
      record {
        spec = stands.spec;
        wants = stands.wants;
        passed = stands.passed;
        name = stands.name;
        rest = stands.rest;
        candidates = stands.candidates;
        few = stands.few;
        legged = stands.legged;
        came = stay.0;
        emptied = stay.1 ∙ stands.emptied;
        accepts = request_of-later row.number what past _ stands.accepts;
        undecided = rw (stands.undecided, completes) refl;
        each_lookup = lookups_spared setting what past row.number stands.spec stands.name stands.rest (lookups row) spared stands.each_lookup;
        unanswered = stands.unanswered;
        later = λ k above. begun_other (leg_of row.number k) (begun_by what) (started past) (others k) ∙ stands.later k above;
      }

  -- where an entry completes a request as its search has ended, it doesn't complete one of whose legs it concerns none
  pub spared_uncompleted : (row : Row T) → completed_by setting row.number what past ≡ search_answer setting row.number (what ∷ past) → AllByRecursion (SparesLookup setting what past) (lookups row) → RowStands plan setting past row
      → completed_by setting row.number what past ≡ None
  spared_uncompleted row by_search spared stands =
      let stay = passed_stay setting row.number stands.spec what past 0 stands.passed stands.came in
      let each = lookups_spared setting what past row.number stands.spec stands.name stands.rest (lookups row) spared stands.each_lookup in
      by_search ∙ no_answer setting row.number stands.spec (what ∷ past) stands.passed stands.name stands.rest (spec_of-later row.number what past stands.spec (spec_of_row row stands)) stands.candidates stay.0
      (row_answers setting (what ∷ past) stands.spec (length stands.passed) stands.name stands.rest row stands.wants stands.legged each ∙ stands.unanswered)

  -- the row stays, of whose legs the entry concerns none and which it doesn't complete
  pub record IsSpared (row : Row T) : Type 0 where
    pub spared : AllByRecursion (SparesLookup setting what past) (lookups row)
    pub others : BeginsOther row.number
    pub uncompleted : completed_by setting row.number what past ≡ None

  abbrev pub it_stays : Row T → Outcome (Row T) (Ticket T)
  it_stays row = stays row row

  pub spared_follows : (row : Row T) → IsSpared row → RowStands plan setting past row → Follows number_of ticket_number flown setting what past (it_stays row)
  spared_follows row is stands = (refl, is.uncompleted, sym (lookups_left setting what past (lookups row) is.spared (legs_stand plan setting past row stands)))

  -- all of these rows stay
  pub keep_all : List (Row T) → List (Outcome (Row T) (Ticket T))
  keep_all [] = []
  keep_all (row ∷ rows) = stays row row ∷ keep_all rows

  pub keep_all-becomes : (rows : List (Row T)) → Becomes (keep_all rows) rows rows []
  unfolding keep_all
  keep_all-becomes [] = record { rows_before = refl; rows_behind = refl; tickets_behind = refl }
  keep_all-becomes (row ∷ rows) =
      let rest = keep_all-becomes rows in
      record { rows_before = ap (λ rs. row ∷ rs) rest.rows_before; rows_behind = ap (λ rs. row ∷ rs) rest.rows_behind; tickets_behind = rest.tickets_behind }

  pub keep_all-follow : (rows : List (Row T)) → AllByRecursion IsSpared rows → AllByRecursion (RowStands plan setting past) rows → AllByRecursion (Follows number_of ticket_number flown setting what past) (keep_all rows)
  unfolding keep_all
  keep_all-follow [] spared each = tt
  keep_all-follow (row ∷ rows) spared each = (spared_follows row spared.0 each.0, keep_all-follow rows spared.1 each.1)

  pub keep_all-stand : (rows : List (Row T)) → AllByRecursion IsSpared rows → AllByRecursion (RowStands plan setting past) rows → AllByRecursion (Stands plan setting what past) (keep_all rows)
  unfolding keep_all
  keep_all-stand [] spared each = tt
  keep_all-stand (row ∷ rows) spared each = (row_spared row spared.0.spared spared.0.others spared.0.uncompleted each.0, keep_all-stand rows spared.1 each.1)

  pub rows_spared : (rows : List (Row T)) → AllByRecursion IsSpared rows → AllByRecursion (RowStands plan setting past) rows → AllByRecursion (RowStands plan setting (what ∷ past)) rows
  rows_spared [] spared each = tt
  rows_spared (row ∷ rows) spared each = (row_spared row spared.0.spared spared.0.others spared.0.uncompleted each.0, rows_spared rows spared.1 each.1)

-- outcomes behind outcomes
pub becomes-append : {R K : Type 0} (os ps : List (Outcome R K)) (old new old' new' : List R) (tickets tickets' : List K) → Becomes os old new tickets → Becomes ps old' new' tickets' → Becomes (os ++ ps) (old ++ old') (new ++ new') (tickets ++ tickets')
becomes-append os ps old new old' new' tickets tickets' b c = record {
  rows_before = ap₂ (λ xs ys. xs ++ ys) b.rows_before c.rows_before ∙ sym (map-append row_of os ps);
  rows_behind = ap₂ (λ xs ys. xs ++ ys) b.rows_behind c.rows_behind ∙ sym (filter_map-append row_behind os ps);
  tickets_behind = ap₂ (λ xs ys. xs ++ ys) b.tickets_behind c.tickets_behind ∙ sym (filter_map-append ticket_behind os ps);
}

module _ {T : Type 0} (plan : T → Script) (setting : Setting) (past : Past) where
  take_spared : (number : ℕ) (rows : List (Row T)) → AllByRecursion (IsSpared plan setting (Take number) past) rows
  take_spared number [] = tt
  take_spared number (row ∷ rows) = (record { spared = each_taken (lookups row); others = λ k. tt; uncompleted = refl }, take_spared number rows)
    where
      each_taken : (ss : List Lookup) → AllByRecursion (SparesLookup setting (Take number) past) ss
      each_taken [] = tt
      each_taken (lookup ∷ ss) = (take_spares setting past (leg_of_lookup lookup) number, each_taken ss)

  -- a Take takes its ticket away, and leaves the rows
  pub table_taken : (rows : List (Row T)) (ticket : Ticket T) (rest : List (Ticket T)) → TableStands plan setting past rows (ticket ∷ rest) → TableStands plan setting (Take ticket.call.number ∷ past) rows rest
  table_taken rows ticket rest table =
      let take : What = Take ticket.call.number in
      let spared = take_spared ticket.call.number rows in
      let left : left_by (Some ticket.call.number) (ticket.call.number ∷ map ticket_number rest) ≡ map ticket_number rest = rw (eq-eqb ticket.call.number ticket.call.number refl) refl in
      record {
        stand = subst (λ ts. StandFor number_of ticket_number flown setting (take ∷ past) rows ts) (append-nil rest)
            (stands_behind number_of ticket_number flown setting take past (keep_all plan setting take past rows) rows rows (ticket ∷ rest) rest [] refl refl left (keep_all-becomes plan setting take past rows)
            (keep_all-follow plan setting take past rows spared table.each_row) table.stand);
        each_row = rows_spared plan setting take past rows spared table.each_row;
        each_ticket = tickets_later plan setting take past rest table.each_ticket.1;
      }
