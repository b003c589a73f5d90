-- The callback of one request more is obeyed, once the request was taken and what its callback commands was performed right behind that.
use Rattle.std.proofs.Common.{◌≡◌, ◌≢◌, ◌∙◌, ℕ, ◌+◌, ◌≤◌, ◌<◌, ◌==◌, ◌&&◌, ◌||◌, Bool, true, false, not, cond, nat_lt, nat_le, List, [], ◌∷◌, ◌++◌, Option, Some, None, length, refl, sym, ap, subst, arith, eq-eqb, ne_eqb, le-leb, lt-ltb}
use Rattle.std.proofs.lemmas.Bool.{and_from}
use Rattle.std.proofs.lemmas.List.{append-nil, length-append, map-append}
use Rattle.std.proofs.lemmas.List.Folds.{list_all-append}
use Rattle.std.proofs.lemmas.List.Sums.{sum_by-append, sum_by-cons}
use Rattle.std.specs.List.{AllByRecursion, list_all}
use Rattle.std.specs.Option.{option_map_or}
use Rattle.std.specs.Prelude.{count_by, option_to_list, sum_by}
use Rattle.chan_types.specs.Gives.{gives}
use Rattle.chan_types.specs.Plans.{Plan}
use Rattle.chan_types.specs.declared.answer.Answer.{Answer}
use Rattle.chan_types.specs.declared.journal.Entry.{Entry}
use Rattle.chan_types.specs.declared.journal.What.TheVariants.{Take}
use Rattle.chan_types.specs.declared.orders.Orders.{Orders}
use Rattle.channel_model.specs.Commands.{AllBecame, ArePerformed, IsPerformed, ObeysOrders, Outcome, Performance, commands_for, is_before_next, is_lost, is_one_of, is_other_work, is_own_take, position_of, positions_from, positions_left}
use Rattle.channel_model.specs.Completion.{occurrences, taken, taken_by}
use Rattle.channel_model.specs.Journal.{Past, followed_by, past_of}
use Rattle.channel_model.specs.Setting.{Setting}
use Rattle.ticket_delivery.proofs.Theorems.{IsCommanded, command_takes, earlier, positions-append}
use Rattle.seat_laws.proofs.ListLemmas.{each_passes, or_right}
use Rattle.seat_laws.proofs.OwnLemmas.{positions_below}
use Rattle.seat_laws.proofs.PerformedLemmas.{before_none, outcomes_within, spares, takes_it}
use Rattle.owner_session.proofs.ListLemmas.{all_pass, all_positions, any_front, any_last, apart_by, each_differs, each_of, no_positions, or_other}
use Rattle.owner_session.proofs.ObeyLemmas.{IsDone, are_performed_longer, commands_of_done, done_later, past_on}

-- the entry by which a request is taken
abbrev pub take_entry : ℕ → Entry
take_entry number = record { seat = 0; by = 0; what = Take number }

-- ---- what is commanded

-- what takes nothing takes none of the requests
untakes : (request : ℕ) (e : Entry) → taken_by e.what ≡ None → not (takes_it request e) ≡ true
untakes request e none = ap (λ found. not (option_map_or (λ number. number == request) found false)) none

-- what was commanded by a request's callback spares each other request
commanded_spares : (by request : ℕ) → by ≢ request → (e : Entry) → IsCommanded by e → spares request e ≡ true
commanded_spares by request differ e c =
    and_from (not (e.by == request)) (not (takes_it request e)) (apart_by e.by request (λ same. differ (sym c.1 ∙ same))) (untakes request e (command_takes e.what c.2))

-- what was commanded takes nothing
pub commanded_taken : (by : ℕ) (past : Past) (es : List Entry) → AllByRecursion (IsCommanded by) es → taken (followed_by past es) ≡ taken past
commanded_taken by past [] each = refl
commanded_taken by past (e ∷ es) each =
    commanded_taken by (e.what ∷ past) es each.1 ∙ ap (λ found. taken past ++ option_to_list found) (command_takes e.what each.0.2) ∙ append-nil (taken past)

-- ---- a request that wasn't taken

-- it is none of them
not_one_of : (n : ℕ) (ns : List ℕ) → occurrences n ns ≡ 0 → is_one_of ns n ≡ false
not_one_of n [] none = refl
not_one_of n (m ∷ ns) none = by (m == n) none (not_one_of n ns)
  where
    by : (b : Bool) → cond b (occurrences n ns + 1) (occurrences n ns) ≡ 0 → (occurrences n ns ≡ 0 → is_one_of ns n ≡ false) → (b || is_one_of ns n) ≡ false
    by true none rest = absurd (omega (arith, none))
    by false none rest = rest none

-- so its callback commanded nothing
uncommanded : (n : ℕ) (ns : List ℕ) → n ≢ 0 → occurrences n ns ≡ 0 → (e : Entry) → ((e.by == 0) || is_one_of ns e.by) ≡ true → not (e.by == n) ≡ true
uncommanded n ns some none e h = apart_by e.by n (λ same. absurd (
    let found : is_one_of ns e.by ≡ true = or_other (e.by == 0) (is_one_of ns e.by) (ne_eqb e.by 0 (λ zero_. some (sym same ∙ zero_))) h in
    let clash : true ≡ false = sym found ∙ ap (is_one_of ns) same ∙ not_one_of n ns none in cc))

-- of numbers one behind the other the first stand nowhere where all do
front_none : (n : ℕ) (xs ys : List ℕ) → occurrences n (xs ++ ys) ≡ 0 → occurrences n xs ≡ 0
front_none n [] ys none = refl
front_none n (m ∷ xs) ys none = at (m == n) none (front_none n xs ys)
  where
    at : (b : Bool) → cond b (occurrences n (xs ++ ys) + 1) (occurrences n (xs ++ ys)) ≡ 0 → (occurrences n (xs ++ ys) ≡ 0 → occurrences n xs ≡ 0) → cond b (occurrences n xs + 1) (occurrences n xs) ≡ 0
    at true none rest = absurd (omega (arith, none))
    at false none rest = rest none

-- and so do the last
back_none : (n : ℕ) (xs ys : List ℕ) → occurrences n (xs ++ ys) ≡ 0 → occurrences n ys ≡ 0
back_none n [] ys none = none
back_none n (m ∷ xs) ys none = at (m == n) none (back_none n xs ys)
  where
    at : (b : Bool) → cond b (occurrences n (xs ++ ys) + 1) (occurrences n (xs ++ ys)) ≡ 0 → (occurrences n (xs ++ ys) ≡ 0 → occurrences n ys ≡ 0) → occurrences n ys ≡ 0
    at true none rest = absurd (omega (arith, none))
    at false none rest = rest none

-- what was taken stays so
fewer_taken : (n : ℕ) (past : Past) (es : List Entry) → occurrences n (taken (followed_by past es)) ≡ 0 → occurrences n (taken past) ≡ 0
fewer_taken n past [] none = none
fewer_taken n past (e ∷ es) none = front_none n (taken past) (option_to_list (taken_by e.what)) (fewer_taken n (e.what ∷ past) es none)

-- nothing that is taken is this
takes_other : (n : ℕ) (found : Option ℕ) → occurrences n (option_to_list found) ≡ 0 → not (option_map_or (λ number. number == n) found false) ≡ true
takes_other n None none = refl
takes_other n (Some m) none = at (m == n) none
  where
    at : (b : Bool) → ◌≡◌ {A = ℕ} (cond b 1 0) 0 → not b ≡ true
    at true none = absurd (omega (arith, none))
    at false none = refl

-- and no entry takes it
unseen : (n : ℕ) (past : Past) (es : List Entry) → occurrences n (taken (followed_by past es)) ≡ 0 → list_all (λ e. not (takes_it n e)) es ≡ true
unseen n past [] none = refl
unseen n past (e ∷ es) none =
    and_from (not (takes_it n e)) (list_all (λ x. not (takes_it n x)) es)
    (takes_other n (taken_by e.what) (back_none n (taken past) (option_to_list (taken_by e.what)) (fewer_taken n (e.what ∷ past) es none)))
    (unseen n (e.what ∷ past) es none)

-- ---- performances, behind others

are_performed_last : (setting : Setting) (journal : List Entry) (orders : Orders) (last : ℕ) (ps : List Performance) (p : Performance) →
    ArePerformed setting journal 1 orders last ps → IsPerformed setting journal 1 orders last p → ArePerformed setting journal 1 orders last (ps ++ p ∷ [])
are_performed_last setting journal orders last [] p are is = (is, tt)
are_performed_last setting journal orders last (q ∷ ps) p are is = (are.0, are_performed_last setting journal orders last ps p are.1 is)

-- ---- the delivery

module _ (setting : Setting) (journal since : List Entry) (orders : Orders) (request : ℕ) (answer : Answer) (script : Plan) (outcomes : List Outcome)
    (done : IsDone setting (past_of journal) request) (answer_is : done.answer ≡ answer) (script_is : done.script ≡ script)
    (untaken : occurrences request (taken (past_of journal)) ≡ 0)
    (dones : AllByRecursion (IsDone setting (past_of journal)) (taken (past_of journal)))
    (seats : list_all (λ e. e.seat == 0) journal ≡ true)
    (commanded : AllByRecursion (IsCommanded request) since)
    (became : AllBecame setting (journal ++ take_entry request ∷ since) (length journal + 1) (gives script answer orders) outcomes)
    (entries_are : positions_from (λ entry. true) (length journal + 1) since ≡ positions_left outcomes) where
  abbrev whole : List Entry
  whole = journal ++ take_entry request ∷ since

  abbrev performance : Performance
  performance = record { request = request; seat = 0; outcomes = outcomes }

  commands_are : commands_for setting whole orders request ≡ gives script answer orders
  commands_are =
      commands_of_done setting whole orders request (done_later setting journal (take_entry request ∷ since) request done)
      ∙ ap (λ s. gives s done.answer orders) script_is ∙ ap (λ a. gives script a orders) answer_is

  taken_are : taken (past_of whole) ≡ taken (past_of journal) ++ request ∷ []
  taken_are = ap taken (past_on journal (take_entry request ∷ since)) ∙ commanded_taken request (Take request ∷ past_of journal) since commanded

  by_it : list_all (λ e. e.by == request) since ≡ true
  by_it = each_passes (IsCommanded request) (λ e. e.by == request) (λ e c. eq-eqb e.by request c.1) since commanded

  seats_whole : list_all (λ e. e.seat == 0) whole ≡ true
  seats_whole =
      list_all-append (λ e. e.seat == 0) journal (take_entry request ∷ since)
      ∙ and_from (list_all (λ e. e.seat == 0) journal) (list_all (λ e. e.seat == 0) since) seats (each_passes (IsCommanded request) (λ e. e.seat == 0) (λ e c. eq-eqb e.seat 0 c.0) since commanded)

  -- the entries of its callback
  module _ (givers : list_all (λ e. (e.by == 0) || is_one_of (taken (past_of journal)) e.by) journal ≡ true) where
    by_none : list_all (λ e. not (e.by == request)) journal ≡ true
    by_none = all_pass (λ e. (e.by == 0) || is_one_of (taken (past_of journal)) e.by) (λ e. not (e.by == request)) (uncommanded request (taken (past_of journal)) done.numbered untaken) journal givers

    entries_of_it : positions_from (λ e. e.by == request) 0 whole ≡ positions_left outcomes
    entries_of_it =
        positions-append (λ e. e.by == request) 0 journal (take_entry request ∷ since)
        ∙ ap (λ l. l ++ positions_from (λ e. e.by == request) (0 + length journal) (take_entry request ∷ since)) (no_positions (λ e. e.by == request) 0 journal by_none)
        ∙ ap (λ b. cond b ((0 + length journal) ∷ []) [] ++ positions_from (λ e. e.by == request) ((0 + length journal) + 1) since) (ne_eqb 0 request (λ same. done.numbered (sym same)))
        ∙ all_positions (λ e. e.by == request) ((0 + length journal) + 1) since by_it
        ∙ ap (λ k. positions_from (λ (entry : Entry). true) (k + 1) since) (omega arith) ∙ entries_are

  -- where it was taken
  taken_at : positions_from (is_own_take 0 request) 0 whole ≡ length journal ∷ []
  taken_at =
      positions-append (is_own_take 0 request) 0 journal (take_entry request ∷ since)
      ∙ ap (λ l. l ++ positions_from (is_own_take 0 request) (0 + length journal) (take_entry request ∷ since)) (no_positions (is_own_take 0 request) 0 journal
      (all_pass (λ e. not (takes_it request e)) (λ e. not (is_own_take 0 request e)) (λ e fails. both_no (e.seat == 0) (takes_it request e) fails) journal (unseen request [] journal untaken)))
      ∙ ap (λ b. cond b ((0 + length journal) ∷ []) [] ++ positions_from (is_own_take 0 request) ((0 + length journal) + 1) since) (eq-eqb request request refl)
      ∙ ap (λ l. (0 + length journal) ∷ l) (no_positions (is_own_take 0 request) ((0 + length journal) + 1) since
      (each_passes (IsCommanded request) (λ e. not (is_own_take 0 request e)) (λ e c. both_no (e.seat == 0) (takes_it request e) (untakes request e (command_takes e.what c.2))) since commanded))
      ∙ ap (λ k. k ∷ []) (omega arith)
    where
      both_no : (a b : Bool) → not b ≡ true → not (a && b) ≡ true
      both_no true b fails = fails
      both_no false b fails = refl

  -- what else was done was done up to there
  others_below : AllByRecursion (λ p. p < length journal + 1) (positions_from (is_other_work 0 request) 0 whole)
  others_below =
      subst (AllByRecursion (λ p. p < length journal + 1)) (sym (positions-append (is_other_work 0 request) 0 journal (take_entry request ∷ since)))
      (each_of (λ p. p < length journal + 1) (positions_from (is_other_work 0 request) 0 journal) (positions_from (is_other_work 0 request) (0 + length journal) (take_entry request ∷ since))
      (positions_below (is_other_work 0 request) 0 (length journal + 1) journal (omega arith))
      (subst (λ l. AllByRecursion (λ p. p < length journal + 1) (cond (is_other_work 0 request (take_entry request)) ((0 + length journal) ∷ []) [] ++ l))
      (sym (no_positions (is_other_work 0 request) ((0 + length journal) + 1) since
      (each_passes (IsCommanded request) (λ e. not (is_other_work 0 request e)) (λ e c. no_other (e.seat == 0) (e.by == request) (eq-eqb e.by request c.1)) since commanded)))
      (one (is_other_work 0 request (take_entry request)))))
    where
      no_other : (a b : Bool) → b ≡ true → not (a && not b) ≡ true
      no_other true true is = refl
      no_other false true is = refl
      no_other a false is = absurd (cc is)

      one : (b : Bool) → AllByRecursion (λ p. p < length journal + 1) (cond b ((0 + length journal) ∷ []) [] ++ [])
      one true = (omega arith, tt)
      one false = tt

  within : AllByRecursion (λ o. (length journal + 1 ≤ position_of o) × (position_of o ≤ length whole)) outcomes
  within = outcomes_within setting whole (length journal + 1) (length journal + 1) (gives script answer orders) outcomes (omega arith) became

  performed_it : list_all (λ e. (e.by == 0) || is_one_of (taken (past_of journal)) e.by) journal ≡ true → IsPerformed setting whole 1 orders (length whole) performance
  performed_it givers = record {
    seated = omega arith;
    became = subst (λ cs. AllBecame setting whole 0 cs outcomes) (sym commands_are) (earlier setting whole 0 (length journal + 1) (gives script answer orders) outcomes (omega arith) became);
    entries_are = entries_of_it givers;
    of_seat = all_pass (λ e. e.seat == 0) (λ e. not (e.by == request) || (e.seat == 0)) (λ e h. or_right (not (e.by == request)) (e.seat == 0) h) whole seats_whole;
    in_time = each_passes (λ o. (length journal + 1 ≤ position_of o) × (position_of o ≤ length whole)) (λ o. nat_le (position_of o) (length whole)) (λ o h. le-leb (position_of o) (length whole) h.1) outcomes within;
    behind_take = subst (λ ts. list_all (λ o. list_all (λ t. nat_lt t (position_of o)) ts) outcomes ≡ true) (sym taken_at)
        (each_passes (λ o. (length journal + 1 ≤ position_of o) × (position_of o ≤ length whole)) (λ o. list_all (λ t. nat_lt t (position_of o)) (length journal ∷ []))
        (λ o h. and_from (nat_lt (length journal) (position_of o)) true (lt-ltb (length journal) (position_of o) (omega (arith, h.0))) refl) outcomes within);
    before_other_work = subst (λ ts. list_all (λ o. list_all (λ t. is_before_next (position_of o) t (positions_from (is_other_work 0 request) 0 whole)) ts) outcomes ≡ true) (sym taken_at)
        (each_passes (λ o. (length journal + 1 ≤ position_of o) × (position_of o ≤ length whole)) (λ o. list_all (λ t. is_before_next (position_of o) t (positions_from (is_other_work 0 request) 0 whole)) (length journal ∷ []))
        (λ o h. and_from (is_before_next (position_of o) (length journal) (positions_from (is_other_work 0 request) 0 whole)) true
        (before_none (position_of o) (length journal) (positions_from (is_other_work 0 request) 0 whole) others_below) refl) outcomes within);
  }

  -- the other requests are as they were
  spared : AllByRecursion (λ r. IsDone setting (past_of journal) r × (list_all (spares r) (take_entry request ∷ since) ≡ true)) (taken (past_of journal))
  spared = both_each (taken (past_of journal)) dones (each_differs request (taken (past_of journal)) untaken)
    where
      both_each : (ns : List ℕ) → AllByRecursion (IsDone setting (past_of journal)) ns → AllByRecursion (λ n. n ≢ request) ns →
          AllByRecursion (λ r. IsDone setting (past_of journal) r × (list_all (spares r) (take_entry request ∷ since) ≡ true)) ns
      both_each [] d a = tt
      both_each (n ∷ ns) d a = (
        (
          d.0,
          and_from (spares n (take_entry request)) (list_all (spares n) since)
              (and_from (not (0 == n)) (not (request == n)) (apart_by 0 n (λ same. d.0.numbered (sym same))) (apart_by request n (λ same. a.0 (sym same))))
              (each_passes (IsCommanded request) (spares n) (commanded_spares request n (λ same. a.0 (sym same))) since commanded),
        ),
        both_each ns d.1 a.1,
      )

  pub obeyed_one : (total : ℕ) → ObeysOrders setting journal 1 orders (length journal) total → ObeysOrders setting whole 1 orders (length whole) (total + count_by is_lost outcomes)
  obeyed_one total obeys = record {
    performances = obeys.performances ++ performance ∷ [];
    requests_are = map-append (λ (p : Performance). p.request) obeys.performances (performance ∷ []) ∙ ap (λ ns. ns ++ request ∷ []) obeys.requests_are ∙ sym taken_are;
    performed = are_performed_last setting whole orders (length whole) obeys.performances performance
        (are_performed_longer setting journal (take_entry request ∷ since) orders (length journal) (length whole) (omega arith) (omega (arith, length-append journal (take_entry request ∷ since))) obeys.performances (taken (past_of journal)) obeys.requests_are
        spared obeys.performed)
        (performed_it obeys.givers);
    givers = subst (λ ns. list_all (λ e. (e.by == 0) || is_one_of ns e.by) whole ≡ true) (sym taken_are)
        (list_all-append (λ e. (e.by == 0) || is_one_of (taken (past_of journal) ++ request ∷ []) e.by) journal (take_entry request ∷ since)
        ∙ and_from (list_all (λ e. (e.by == 0) || is_one_of (taken (past_of journal) ++ request ∷ []) e.by) journal) (list_all (λ e. (e.by == 0) || is_one_of (taken (past_of journal) ++ request ∷ []) e.by) since)
        (all_pass (λ e. (e.by == 0) || is_one_of (taken (past_of journal)) e.by) (λ e. (e.by == 0) || is_one_of (taken (past_of journal) ++ request ∷ []) e.by)
        (λ e h. grown (e.by == 0) (taken (past_of journal)) e.by h) journal obeys.givers)
        (each_passes (IsCommanded request) (λ e. (e.by == 0) || is_one_of (taken (past_of journal) ++ request ∷ []) e.by)
        (λ e c. or_right (e.by == 0) (is_one_of (taken (past_of journal) ++ request ∷ []) e.by) (any_last (λ other. other == e.by) (taken (past_of journal)) request (eq-eqb request e.by (sym c.1)))) since commanded));
    lost_are =
        let one : sum_by (λ (p : Performance). count_by is_lost p.outcomes) (performance ∷ []) ≡ count_by is_lost outcomes + sum_by (λ (p : Performance). count_by is_lost p.outcomes) [] =
        sum_by-cons (λ (p : Performance). count_by is_lost p.outcomes) performance [] in
        omega (arith, obeys.lost_are, one, sum_by-append (λ (p : Performance). count_by is_lost p.outcomes) obeys.performances (performance ∷ []));
  }
    where
      grown : (a : Bool) (ns : List ℕ) (n : ℕ) → (a || is_one_of ns n) ≡ true → (a || is_one_of (ns ++ request ∷ []) n) ≡ true
      grown true ns n h = refl
      grown false ns n h = any_front (λ other. other == n) ns (request ∷ []) h
