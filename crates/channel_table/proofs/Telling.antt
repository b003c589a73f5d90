-- What the rows of a table tell of a channel: which legs wait, how many attempts are in flight, where, and when they are due.
use Rattle.channel_table.proofs.Base.{◌≡◌, ◌∙◌, ℕ, ◌+◌, Bool, true, false, List, [], ◌∷◌, ◌++◌, Option, Some, None, refl, ap, ap₂, sym, subst, map, cond, arith, length, sum_by-cons, AllByRecursion, cons_option, list_any, sum_by, count_by, filter, filter_map, flat_map, is_none, is_some, not, option_map, option_to_list, ◌&&◌, ◌||◌, Script, Ticket, as_many-any, as_many-length, deadline, waiting, Attempt, flight, in_flight, went_over, Accepted, Past, Due, first_due, least, LegEnd, LegFacts, Leg, leg_of, Setting, Flying, attempt_of, flown_by, RowStands, LookupStands, TableStands, all_lookups, number_of, row_over, row_waits, lookups, waiting_in, flew_over, flown_lookup, flying_of, flying_over, is_flying, leg_of_lookup, number_of_leg, waits, waits_of, due_of_lookup, dues, Lookup, HaveAsMany, Spec, Status, Name, status_in, Row}
use Rattle.channel_model.proofs.Theorems.{as_many-map, least-same}
use Rattle.channel_model.specs.Completion.{is_idle, waiting_of}
use Rattle.channel_model.specs.Lawful.{due_of}
use Rattle.channel_table.proofs.RowAnswers.{row_answers}
use Rattle.channel_table.proofs.SearchSteps.{current_are}
use Rattle.channel_table.proofs.LookupLists.{LegOf, all_legs_stand, any_lookups, count_lookups, flat_lookups}
use Rattle.channel_table.specs.Rows.{flying_in}

module _ (setting : Setting) (past : Past) where
  -- a leg is idle where its lookup waits
  idle_by : (leg : Leg) (o : Option Flying) (p : Option Status) (reply : List ℕ) → (is_none (flown_by leg o) && is_none {T = LegEnd} (option_map (λ (s : Status). record { status = s; reply = reply }) p)) ≡ not (is_some o || is_some p)
  idle_by leg None None reply = refl
  idle_by leg None (Some status) reply = refl
  idle_by leg (Some flying) p reply = refl

  idle_is : (lookup : Lookup) → LegOf setting past lookup → is_idle setting past (leg_of_lookup lookup) ≡ waits lookup
  idle_is lookup stands =
      ap₂ (λ f e. is_none f && is_none e) (ap (λ (f : LegFacts). f.flies) stands.facts) stands.ends ∙ idle_by (leg_of_lookup lookup) (flying_of lookup) (status_in lookup.leg.phase) lookup.reply

  -- the legs of a request's lookups that are idle are those that wait
  idle_lookups : (number : ℕ) (spec : Spec) (name : Name) (rest : List Name) (ss : List Lookup) → AllByRecursion (LookupStands setting past number spec name rest) ss
      → filter (is_idle setting past) (map (leg_of number) (map number_of_leg ss)) ≡ flat_map waits_of ss
  idle_lookups number spec name rest [] each = refl
  idle_lookups number spec name rest (lookup ∷ ss) each =
      let own : leg_of number lookup.leg_number ≡ leg_of_lookup lookup = ap (λ n. leg_of n lookup.leg_number) (sym each.0.numbered) in
      ap (λ l. filter (is_idle setting past) (l ∷ map (leg_of number) (map number_of_leg ss))) own
      ∙ ap₂ (λ b ls. cond b (leg_of_lookup lookup ∷ ls) ls) (idle_is lookup each.0.leg) (idle_lookups number spec name rest ss each.1) ∙ by_test (waits lookup)
    where
      by_test : (b : Bool) → cond b (leg_of_lookup lookup ∷ flat_map waits_of ss) (flat_map waits_of ss) ≡ cond b (leg_of_lookup lookup ∷ []) [] ++ flat_map waits_of ss
      by_test true = refl
      by_test false = refl

  some_same : (x y : ℕ) → ◌≡◌ {A = Option ℕ} (Some x) (Some y) → x ≡ y
  some_same x y e = cc

  -- the attempt of a lookup is due when the lookup says so
  pub due_is : (lookup : Lookup) (flying : Flying) → flying_of lookup ≡ Some flying → LegOf setting past lookup → deadline setting (leg_of_lookup lookup) past ≡ flying.due
  due_is lookup flying is stands =
      let flies : flight setting (leg_of_lookup lookup) past ≡ Some (attempt_of (leg_of_lookup lookup) flying) = ap (λ (f : LegFacts). f.flies) stands.facts ∙ ap (flown_by (leg_of_lookup lookup)) is in
      some_same (deadline setting (leg_of_lookup lookup) past) flying.due
      (sym (ap (option_map (λ (a : Attempt). deadline setting (leg_of_lookup lookup) past)) flies) ∙ ap (λ (f : LegFacts). f.due) stands.facts ∙ ap (option_map (λ (f : Flying). f.due)) is)

  due_by : (lookup : Lookup) (o : Option Flying) → flying_of lookup ≡ o → LegOf setting past lookup → (rest : List Attempt) (more : List Due) → map (due_of setting past) rest ≡ more
      → map (due_of setting past) (flown_lookup lookup ++ rest) ≡ cons_option (due_of_lookup lookup) more
  due_by lookup None is stands rest more same = rw is same
  due_by lookup (Some flying) is stands rest more same =
      rw is (ap₂ (λ (d : ℕ) ds. record { at = d; leg = leg_of_lookup lookup } ∷ ds) (due_is lookup flying is stands) same)

  dues_same : (ss : List Lookup) → AllByRecursion (LegOf setting past) ss → map (due_of setting past) (flat_map flown_lookup ss) ≡ filter_map due_of_lookup ss
  dues_same [] each = refl
  dues_same (lookup ∷ ss) each = due_by lookup (flying_of lookup) refl each.0 (flat_map flown_lookup ss) (filter_map due_of_lookup ss) (dues_same ss each.1)

over_same : (server link : ℕ) (ss : List Lookup) → list_any (λ a. went_over a server link) (flat_map flown_lookup ss) ≡ list_any (flew_over server link) ss
over_same server link [] = refl
over_same server link (lookup ∷ ss) = by_attempt (leg_of_lookup lookup) (flying_of lookup) (over_same server link ss)
  where
    by_attempt : (leg : Leg) (o : Option Flying) → list_any (λ a. went_over a server link) (flat_map flown_lookup ss) ≡ list_any (flew_over server link) ss
        → list_any (λ a. went_over a server link) (option_to_list (flown_by leg o) ++ flat_map flown_lookup ss) ≡ (flying_over server link o || list_any (flew_over server link) ss)
    by_attempt leg None rest = rest
    by_attempt leg (Some flying) rest = ap (λ b. went_over (attempt_of leg flying) server link || b) rest

count_flown : (ss : List Lookup) → length (flat_map flown_lookup ss) ≡ count_by is_flying ss
count_flown [] = refl
count_flown (lookup ∷ ss) = by_attempt (leg_of_lookup lookup) (flying_of lookup) (count_flown ss) ∙ sym (sum_by-cons (λ (s : Lookup). cond (is_flying s) 1 0) lookup ss)
  where
    by_attempt : (leg : Leg) (o : Option Flying) → length (flat_map flown_lookup ss) ≡ count_by is_flying ss → length (option_to_list (flown_by leg o) ++ flat_map flown_lookup ss) ≡ cond (is_some o) 1 0 + count_by is_flying ss
    by_attempt leg None rest = omega (arith, rest)
    by_attempt leg (Some flying) rest = omega (arith, rest)

count_waiting : (ss : List Lookup) → length (flat_map waits_of ss) ≡ count_by waits ss
count_waiting [] = refl
count_waiting (lookup ∷ ss) = by_test (leg_of_lookup lookup) (waits lookup) (count_waiting ss) ∙ sym (sum_by-cons (λ (s : Lookup). cond (waits s) 1 0) lookup ss)
  where
    by_test : (leg : Leg) (b : Bool) → length (flat_map waits_of ss) ≡ count_by waits ss → length (cond b (leg ∷ []) [] ++ flat_map waits_of ss) ≡ cond b 1 0 + count_by waits ss
    by_test leg true rest = omega (arith, rest)
    by_test leg false rest = omega (arith, rest)

module _ {T : Type 0} (plan : T → Script) (setting : Setting) (past : Past) where
  -- the waiting legs of a request are those of its row
  waiting_by : (row : Row T) → RowStands plan setting past row → waiting_of setting past row.number ≡ row_waits row
  waiting_by row stands =
      let unanswered = row_answers setting past stands.spec (length stands.passed) stands.name stands.rest row stands.wants stands.legged stands.each_lookup ∙ stands.unanswered in
      ap (filter (is_idle setting past))
      (current_are setting row.number stands.spec past stands.passed stands.name stands.rest (ap (option_map (λ (r : Accepted). r.spec)) stands.accepts) stands.candidates stands.came unanswered ∙ ap (map (leg_of row.number)) stands.legged)
      ∙ idle_lookups setting past row.number stands.spec stands.name stands.rest (lookups row) stands.each_lookup

  waiting_of_rows : (rows : List (Row T)) → AllByRecursion (RowStands plan setting past) rows → flat_map (waiting_of setting past) (map number_of rows) ≡ flat_map row_waits rows
  waiting_of_rows [] each = refl
  waiting_of_rows (row ∷ rows) each = ap₂ (λ xs ys. xs ++ ys) (waiting_by row each.0) (waiting_of_rows rows each.1)

  -- the waiting legs are those of the rows
  pub waiting_rows : (rows : List (Row T)) (tickets : List (Ticket T)) → TableStands plan setting past rows tickets → waiting setting past ≡ flat_map row_waits rows
  waiting_rows rows tickets table = ap (flat_map (waiting_of setting past)) table.stand.pending_are ∙ waiting_of_rows rows table.each_row

  -- the attempts in flight are those of all lookups, in whatever order
  pub flying_lookups : (rows : List (Row T)) (tickets : List (Ticket T)) → TableStands plan setting past rows tickets → HaveAsMany (in_flight setting past) (flat_map flown_lookup (all_lookups rows))
  flying_lookups rows tickets table = subst (HaveAsMany (in_flight setting past)) (flat_lookups flown_lookup rows) table.stand.flying_are

  -- the attempt that is due first is the first of those of the rows
  pub first_due_rows : (rows : List (Row T)) (tickets : List (Ticket T)) → TableStands plan setting past rows tickets → first_due setting past ≡ least (dues rows)
  first_due_rows rows tickets table =
      least-same (map (due_of setting past) (in_flight setting past)) (map (due_of setting past) (flat_map flown_lookup (all_lookups rows))) (as_many-map (due_of setting past) (in_flight setting past) (flat_map flown_lookup (all_lookups rows)) (flying_lookups rows tickets table))
      ∙ ap least (dues_same setting past (all_lookups rows) (all_legs_stand plan setting past rows table.each_row))

  -- an attempt is in flight over a link where one of a row is
  pub busy_rows : (server link : ℕ) (rows : List (Row T)) (tickets : List (Ticket T)) → TableStands plan setting past rows tickets → list_any (λ a. went_over a server link) (in_flight setting past) ≡ list_any (row_over server link) rows
  busy_rows server link rows tickets table =
      as_many-any (λ a. went_over a server link) (in_flight setting past) (flat_map flown_lookup (all_lookups rows)) (flying_lookups rows tickets table) ∙ over_same server link (all_lookups rows) ∙ sym (any_lookups (flew_over server link) rows)

  -- how many attempts are in flight, and how many legs wait
  pub flying_rows : (rows : List (Row T)) (tickets : List (Ticket T)) → TableStands plan setting past rows tickets → length (in_flight setting past) ≡ sum_by flying_in rows
  flying_rows rows tickets table =
      as_many-length (in_flight setting past) (flat_map flown_lookup (all_lookups rows)) (flying_lookups rows tickets table) ∙ count_flown (all_lookups rows) ∙ sym (count_lookups is_flying rows)

  pub waiting_rows_count : (rows : List (Row T)) (tickets : List (Ticket T)) → TableStands plan setting past rows tickets → length (waiting setting past) ≡ sum_by waiting_in rows
  waiting_rows_count rows tickets table =
      ap length (waiting_rows rows tickets table ∙ flat_lookups waits_of rows) ∙ count_waiting (all_lookups rows) ∙ sym (count_lookups waits rows)
