-- From what each seat of a channel did it follows that the callbacks of all taken requests were obeyed.
use Rattle.std.proofs.Common.{◌≡◌, ◌≢◌, ◌∙◌, ⊎_elim, ℕ, zero, suc, ◌+◌, ◌-◌, ◌^◌, ◌≤◌, ◌<◌, ◌==◌, ◌||◌, Bool, true, false, not, List, [], ◌∷◌, ◌++◌, Some, None, is_some, length, map, flat_map, min, sum_by, count_by, refl, sym, ap, subst, arith, eq-eqb, eqb-true, ne_eqb}
use Rattle.std.proofs.lemmas.Bool.{and_from, and_parts, cases_Bool}
use Rattle.std.proofs.lemmas.List.{map-append}
use Rattle.std.proofs.lemmas.List.Folds.{list_all-append}
use Rattle.std.proofs.lemmas.List.Sums.{sum_by-append, sum_by-cons}
use Rattle.std.specs.List.{AllByRecursion, list_all}
use Rattle.std.specs.Option.{option_map_or}
use Rattle.chan_types.specs.Gives.{gives}
use Rattle.chan_types.specs.declared.journal.Entry.{Entry}
use Rattle.chan_types.specs.declared.orders.Orders.{Orders}
use Rattle.channel_model.proofs.Theorems.{each-append, own-append, requests_numbered, taken_once, unasked_fate}
use Rattle.channel_model.specs.Commands.{AllBecame, ArePerformed, IsPerformed, ObeysOrders, Performance, commands_for, is_lost, is_one_of}
use Rattle.channel_model.specs.Completion.{fate, occurrences, taken, taken_by}
use Rattle.channel_model.specs.Journal.{Past, accepted, own_entries, past_of}
use Rattle.channel_model.specs.Lawful.{IsLawful, IsLawfulPast}
use Rattle.channel_model.specs.Setting.{Setting}
use Rattle.seat_laws.proofs.ListLemmas.{all_hold, all_pass, each_follows, no_zero, none_first, occurrences_here, one_among, or_left, or_right, stands_among}
use Rattle.seat_laws.proofs.OwnLemmas.{each_seated, same_positions}
use Rattle.seat_laws.proofs.PerformedLemmas.{spares}
use Rattle.seat_laws.proofs.RowLemmas.{Ordered, ordered, row_at, row_fewer, rows_fewer}
use Rattle.seat_laws.proofs.ShiftLemmas.{Done, GoesBy, HasDone, IsDone, all_done, done_longer, free_spares, goes_by}
use Rattle.seat_laws.proofs.TakenLemmas.{told_apart}
use Rattle.seat_laws.specs.Shifts.{AreShiftsFrom, AreShiftsOf, IsLostCount, IsOfRequest, IsShift, Shift, Telling, is_free, lost_through, requests_told, tellings}

-- what holds of each item that a function makes
each_of_map : {A B : Type 0} (f : A → B) (P : B → Type 0) (xs : List A) → AllByRecursion P (map f xs) → AllByRecursion (λ x. P (f x)) xs
each_of_map f P [] each = tt
each_of_map f P (x ∷ xs) each = (each.0, each_of_map f P xs each.1)

-- both of each
both_of_each : {A : Type 0} (P Q : A → Type 0) (xs : List A) → AllByRecursion P xs → AllByRecursion Q xs → AllByRecursion (λ x. P x × Q x) xs
both_of_each P Q [] ps qs = tt
both_of_each P Q (x ∷ xs) ps qs = ((ps.0, qs.0), both_of_each P Q xs ps.1 qs.1)

-- no request has the number 0
zero_unfated : (setting : Setting) (past : Past) → IsLawfulPast setting past → fate setting 0 past ≡ None
zero_unfated setting past lawful = unasked_fate setting 0 past (ap (occurrences 0) (requests_numbered setting past lawful) ∙ no_zero 1 (length (accepted past)) (omega arith))

-- an entry is on nobody's command, or on that of one of these requests' callbacks
abbrev by_one_of : List ℕ → Entry → Bool
by_one_of requests_ e = (e.by == 0) || is_one_of requests_ e.by

-- how many requests a callback lost
abbrev lost_of : Performance → ℕ
lost_of p = count_by is_lost p.outcomes

-- how a seat performed what a callback commanded
abbrev performance_of : ℕ → Done → Performance
performance_of seat done = record { request = done.telling.answer.number; seat = seat; outcomes = done.outcomes }

module _ (setting : Setting) (journal : List Entry) (orders : Orders) (last : ℕ) (lawful : IsLawful setting journal) where
  -- ---- one seat

  zero_untold : (ts : List Telling) → AllByRecursion (IsOfRequest setting journal) ts → occurrences 0 (map (λ (t : Telling). t.answer.number) ts) ≡ 0
  zero_untold [] each = refl
  zero_untold (t ∷ ts) each = rw (ne_eqb t.answer.number 0 (numbered t each.0)) (zero_untold ts each.1)
    where
      numbered : (t : Telling) → IsOfRequest setting journal t → t.answer.number ≢ 0
      numbered t is same = absurd (let clash : None ≡ Some t.answer = sym (zero_unfated setting (past_of journal) lawful.allowed) ∙ ap (λ n. fate setting n (past_of journal)) (sym same) ∙ is.fated in cc)

  module _ (seat : ℕ) (shift : Shift) (is : IsShift setting journal orders last seat shift) where
    told_some : (n : ℕ) → occurrences n (requests_told shift.works) ≢ 0 → n ≢ 0
    told_some n some same = some (ap (λ k. occurrences k (requests_told shift.works)) same ∙ zero_untold (tellings shift.works) is.of_requests)

    -- each of its entries is on nobody's command, or on that of a callback that it called
    pub own_by : list_all (by_one_of (requests_told shift.works)) (own_entries seat journal) ≡ true
    own_by =
        let test : Entry → Bool = by_one_of (requests_told shift.works) in
        let goes : GoesBy test shift.before shift.after = goes_by orders test shift.works shift.before shift.after is.does
        (λ e free. or_left (e.by == 0) (is_one_of (requests_told shift.works) e.by) ((and_parts (not (is_some (taken_by e.what))) (e.by == 0) free).1))
        (λ s n some. refl) (λ s n some. refl)
        (λ n some e c. or_right (e.by == 0) (is_one_of (requests_told shift.works) e.by) (ap (is_one_of (requests_told shift.works)) c.0 ∙ one_among n (requests_told shift.works) some)) in
        let seen : journal ≡ goes.since ++ is.behind = is.parts ∙ ap (λ l. l ++ is.behind) (goes.seen ∙ ap (λ l. l ++ goes.since) is.unseen) in
        ap (λ j. list_all test (own_entries seat j)) seen ∙ ap (list_all test) (own-append seat goes.since is.behind) ∙ list_all-append test (own_entries seat goes.since) (own_entries seat is.behind)
        ∙ and_from (list_all test (own_entries seat goes.since)) (list_all test (own_entries seat is.behind))
        (subst (λ s. list_all test (own_entries s goes.since) ≡ true) is.seat_is goes.passes)
        (all_pass is_free test (λ e free. or_left (e.by == 0) (is_one_of (requests_told shift.works) e.by) ((and_parts (not (is_some (taken_by e.what))) (e.by == 0) free).1)) (own_entries seat is.behind) is.free_behind)

    module _ (few : (n : ℕ) → occurrences n (requests_told shift.works) ≤ 1) where
      taken_few : (n : ℕ) → occurrences n (taken (past_of journal)) ≤ 1
      taken_few n = omega (arith, taken_once setting (past_of journal) n lawful.allowed)

      has_done : HasDone setting orders seat shift.works shift.after
      has_done = all_done setting orders seat shift.works shift.before shift.after is.does is.setting_is is.seat_is
          (λ n some. (told_some n some, ap (λ j. list_all (spares n) (own_entries seat j)) is.unseen)) few
          (λ n told. told_apart orders n shift.works shift.before shift.after is.behind is.does is.unseen (subst (λ j. occurrences n (taken (past_of j)) ≤ 1) is.parts (taken_few n)) (is.apart n) told)

      -- a callback of its, and of whose request it is
      abbrev IsDoneAt : List Entry → ℕ → Done → Type 0
      IsDoneAt j l d = IsDone setting orders seat j l d × IsOfRequest setting journal d.telling

      -- as it is in the whole journal
      at_journal : AllByRecursion (IsDoneAt journal last) has_done.dones
      at_journal =
          subst (λ j. AllByRecursion (IsDoneAt j last) has_done.dones) (sym is.parts)
          (each_follows (IsDoneAt shift.after.seen (length shift.after.seen)) (IsDoneAt (shift.after.seen ++ is.behind) last) further has_done.dones
          (both_of_each (IsDone setting orders seat shift.after.seen (length shift.after.seen)) (λ (d : Done). IsOfRequest setting journal d.telling) has_done.dones has_done.each
          (each_of_map (λ (d : Done). d.telling) (IsOfRequest setting journal) has_done.dones (subst (AllByRecursion (IsOfRequest setting journal)) (sym has_done.are) is.of_requests))))
        where
          further : (d : Done) → IsDoneAt shift.after.seen (length shift.after.seen) d → IsDoneAt (shift.after.seen ++ is.behind) last d
          further d h = (
            done_longer setting orders seat shift.after.seen is.behind (length shift.after.seen) last d (omega arith) is.in_time
                (all_pass is_free (spares d.telling.answer.number) (free_spares d.telling.answer.number (numbered d h.1)) (own_entries seat is.behind) is.free_behind) h.0,
            h.1,
          )
            where
              numbered : (d : Done) → IsOfRequest setting journal d.telling → d.telling.answer.number ≢ 0
              numbered d of same =
                  absurd (let clash : None ≡ Some d.telling.answer = sym (zero_unfated setting (past_of journal) lawful.allowed) ∙ ap (λ n. fate setting n (past_of journal)) (sym same) ∙ of.fated in cc)

  -- ---- one callback, among all seats

  module _ (count seat : ℕ) (seated : seat < count) (d : Done) (is : IsDone setting orders seat journal last d) (of : IsOfRequest setting journal d.telling)
      (of_seat : list_all (λ e. not (e.by == d.telling.answer.number) || (e.seat == seat)) journal ≡ true) where
    commands_are : commands_for setting journal orders d.telling.answer.number ≡ gives d.telling.script d.telling.answer orders
    commands_are =
        ap (λ found. option_map_or (λ script. option_map_or (λ answer. gives script answer orders) (fate setting d.telling.answer.number (past_of journal)) []) found []) of.scripted
        ∙ ap (λ found. option_map_or (λ answer. gives d.telling.script answer orders) found []) of.fated

    performed_it : IsPerformed setting journal count orders last (performance_of seat d)
    performed_it = record {
      seated = seated;
      became = subst (λ cs. AllBecame setting journal 0 cs d.outcomes) (sym commands_are) is.performed.became;
      entries_are = same_positions (λ e. e.by == d.telling.answer.number) (λ e. e.seat == seat) 0 journal of_seat ∙ is.performed.entries_are;
      of_seat = of_seat;
      in_time = is.performed.in_time;
      behind_take = is.performed.behind_take;
      before_other_work = is.performed.before_other_work;
    }

  -- ---- all seats

  module _ (shifts : List Shift) (all : AreShiftsOf setting journal orders last shifts) where
    abbrev rows : Shift → List ℕ
    rows shift = requests_told shift.works

    once_at_most : (n : ℕ) → occurrences n (flat_map rows shifts) ≤ 1
    once_at_most n = omega (arith, all.once n, taken_once setting (past_of journal) n lawful.allowed)

    -- each seat's entries are on nobody's command, or on that of callbacks that it called
    seat_by : (from : ℕ) (ss : List Shift) → AreShiftsFrom setting journal orders last from ss → (k : ℕ) → k < length ss → list_all (by_one_of (row_at rows ss k)) (own_entries (from + k) journal) ≡ true
    seat_by from [] each k lt = absurd (omega (arith, lt))
    seat_by from (s ∷ ss) each zero lt = subst (λ n. list_all (by_one_of (requests_told s.works)) (own_entries n journal) ≡ true) (omega arith) (own_by from s each.0)
    seat_by from (s ∷ ss) each (suc k) lt = subst (λ n. list_all (by_one_of (row_at rows ss k)) (own_entries n journal) ≡ true) (omega arith) (seat_by (from + 1) ss each.1 k (omega (arith, lt)))

    own_of : (j : ℕ) → j < length shifts → list_all (by_one_of (row_at rows shifts j)) (own_entries j journal) ≡ true
    own_of j lt = subst (λ n. list_all (by_one_of (row_at rows shifts j)) (own_entries n journal) ≡ true) (omega arith) (seat_by 0 shifts all.each j lt)

    -- the entries of a callback that one seat called are that seat's
    of_seat_told : (seat n : ℕ) → n ≢ 0 → occurrences n (row_at rows shifts seat) ≢ 0 → list_all (λ e. not (e.by == n) || (e.seat == seat)) journal ≡ true
    of_seat_told seat n some told = each_seated (λ j e. not (e.by == n) || (j == seat)) (length shifts) journal all.makers each
      where
        unless : (j : ℕ) → (j == seat) ≡ false → (e : Entry) → by_one_of (row_at rows shifts j) e ≡ true → (not (e.by == n) || (j == seat)) ≡ true
        unless j other e h = or_left (not (e.by == n)) (j == seat) (by (e.by == n) refl)
          where
            apart : j ≢ seat
            apart same = absurd (let clash : true ≡ false = sym (eq-eqb j seat same) ∙ other in cc)

            untold : occurrences n (row_at rows shifts j) ≡ 0
            untold = least (occurrences n (row_at rows shifts j)) (occurrences n (row_at rows shifts seat)) (occurrences n (flat_map rows shifts)) (rows_fewer rows n shifts j seat apart) (once_at_most n) told
              where
                least : (a b c : ℕ) → a + b ≤ c → c ≤ 1 → b ≢ 0 → a ≡ 0
                least a b c le few some = omega (arith, le, few, some)

            by : (b : Bool) → (e.by == n) ≡ b → not b ≡ true
            by false is = refl
            by true is =
                let same : e.by ≡ n = eqb-true e.by n is in
                let one : is_one_of (row_at rows shifts j) n ≡ true = second (e.by == 0) (is_one_of (row_at rows shifts j) n) (ne_eqb e.by 0 (λ zero_. some (sym same ∙ zero_)))
                (subst (λ k. ((e.by == 0) || is_one_of (row_at rows shifts j) k) ≡ true) same h) in
                absurd (stands_among n (row_at rows shifts j) one untold)
              where
                second : (a b : Bool) → a ≡ false → (a || b) ≡ true → b ≡ true
                second true b fails h = absurd (cc fails)
                second false b fails h = h

        each : (j : ℕ) → j < length shifts → list_all (λ e. not (e.by == n) || (j == seat)) (own_entries j journal) ≡ true
        each j lt = ⊎_elim (λ (same : (j == seat) ≡ true). all_hold (λ e. not (e.by == n) || (j == seat)) (λ e. or_right (not (e.by == n)) (j == seat) same) (own_entries j journal))
            (λ (other : (j == seat) ≡ false). all_pass (by_one_of (row_at rows shifts j)) (λ e. not (e.by == n) || (j == seat)) (unless j other) (own_entries j journal) (own_of j lt)) (cases_Bool (j == seat))

    -- counts that stop at a limit, summed
    summed : (seat : ℕ) (ds : List Done) → AllByRecursion (λ (d : Done). d.telling.lost ≡ min (count_by is_lost d.outcomes) (2 ^ 64 - 1)) ds →
        min (sum_by (λ (t : Telling). t.lost) (map (λ (d : Done). d.telling) ds)) (2 ^ 64 - 1) ≡ min (sum_by lost_of (map (performance_of seat) ds)) (2 ^ 64 - 1)
    summed seat [] each = refl
    summed seat (d ∷ ds) each =
        capped d.telling.lost (count_by is_lost d.outcomes) (sum_by (λ (t : Telling). t.lost) (map (λ (x : Done). x.telling) ds)) (sum_by lost_of (map (performance_of seat) ds))
        (sum_by (λ (t : Telling). t.lost) (d.telling ∷ map (λ (x : Done). x.telling) ds)) (sum_by lost_of (performance_of seat d ∷ map (performance_of seat) ds)) (2 ^ 64 - 1)
        each.0 (summed seat ds each.1) (sum_by-cons (λ (t : Telling). t.lost) d.telling (map (λ (x : Done). x.telling) ds)) (sum_by-cons lost_of (performance_of seat d) (map (performance_of seat) ds))
      where
        capped : (a b c d whole other limit : ℕ) → a ≡ min b limit → min c limit ≡ min d limit → whole ≡ a + c → other ≡ b + d → min whole limit ≡ min other limit
        capped a b c d whole other limit one more left right = omega (arith, one, more, left, right)

    two_capped : (a b c d whole other limit : ℕ) → min a limit ≡ min b limit → min c limit ≡ min d limit → whole ≡ a + c → other ≡ b + d → min whole limit ≡ min other limit
    two_capped a b c d whole other limit one more left right = omega (arith, one, more, left, right)

    -- the performances of these seats
    record ArePerformancesOf (ss : List Shift) : Type 0 where
      performances : List Performance
      requests_are : map (λ (p : Performance). p.request) performances ≡ flat_map rows ss
      each : AllByRecursion (IsPerformed setting journal (length shifts) orders last) performances
      lost : min (sum_by lost_through ss) (2 ^ 64 - 1) ≡ min (sum_by lost_of performances) (2 ^ 64 - 1)

    numbers_of : (seat : ℕ) (ds : List Done) → map (λ (p : Performance). p.request) (map (performance_of seat) ds) ≡ map (λ (t : Telling). t.answer.number) (map (λ (d : Done). d.telling) ds)
    numbers_of seat [] = refl
    numbers_of seat (d ∷ ds) = ap (λ l. d.telling.answer.number ∷ l) (numbers_of seat ds)

    each_map : (seat : ℕ) (ds : List Done) → AllByRecursion (λ d. IsPerformed setting journal (length shifts) orders last (performance_of seat d)) ds →
        AllByRecursion (IsPerformed setting journal (length shifts) orders last) (map (performance_of seat) ds)
    each_map seat [] each = tt
    each_map seat (d ∷ ds) each = (each.0, each_map seat ds each.1)

    -- each of these numbers stands among them
    each_stands : (ds : List Done) → AllByRecursion (λ (d : Done). occurrences d.telling.answer.number (map (λ (x : Done). x.telling.answer.number) ds) ≢ 0) ds
    each_stands ds = among ds (λ n none. none)
      where
        among : (es : List Done) → ((n : ℕ) → occurrences n (map (λ (x : Done). x.telling.answer.number) ds) ≡ 0 → occurrences n (map (λ (x : Done). x.telling.answer.number) es) ≡ 0) →
            AllByRecursion (λ (d : Done). occurrences d.telling.answer.number (map (λ (x : Done). x.telling.answer.number) ds) ≢ 0) es
        among [] follows = tt
        among (e ∷ es) follows = (
          λ none. absurd (omega (arith, follows e.telling.answer.number none, occurrences_here e.telling.answer.number (map (λ (x : Done). x.telling.answer.number) es))),
          among es (λ n none. (none_first n e.telling.answer.number (map (λ (x : Done). x.telling.answer.number) es) (follows n none)).1),
        )

    performances_of : (from : ℕ) (ss : List Shift) → AreShiftsFrom setting journal orders last from ss → from + length ss ≡ length shifts → ((k : ℕ) → row_at rows shifts (from + k) ≡ row_at rows ss k) → ArePerformancesOf ss
    performances_of from [] each count at = record { performances = []; requests_are = refl; each = tt; lost = refl }
    performances_of from (s ∷ ss) each count at =
        let row : row_at rows shifts from ≡ requests_told s.works = ap (row_at rows shifts) (omega arith) ∙ at zero in
        let few : (n : ℕ) → occurrences n (requests_told s.works) ≤ 1 = λ n. omega (arith, ap (occurrences n) row, row_fewer rows n shifts from, once_at_most n) in
        let mine = has_done from s each.0 few in
        let rest = performances_of (from + 1) ss each.1 (omega (arith, count)) (λ k. ap (row_at rows shifts) (omega arith) ∙ at (suc k)) in
        let numbers : map (λ (x : Done). x.telling.answer.number) mine.dones ≡ requests_told s.works = sym (numbers_again mine.dones) ∙ ap (map (λ (t : Telling). t.answer.number)) mine.are in
        let good = each_follows
        (λ (d : Done). IsDoneAt from s each.0 few journal last d × (occurrences d.telling.answer.number (map (λ (x : Done). x.telling.answer.number) mine.dones) ≢ 0))
        (λ d. IsPerformed setting journal (length shifts) orders last (performance_of from d))
        (λ d h. performed_it (length shifts) from (omega (arith, count)) d h.0.0 h.0.1
        (of_seat_told from d.telling.answer.number (told_some from s each.0 d.telling.answer.number (subst (λ l. occurrences d.telling.answer.number l ≢ 0) numbers h.1))
        (subst (λ l. occurrences d.telling.answer.number l ≢ 0) (numbers ∙ sym row) h.1)))
        mine.dones
        (both_of_each (IsDoneAt from s each.0 few journal last) (λ (d : Done). occurrences d.telling.answer.number (map (λ (x : Done). x.telling.answer.number) mine.dones) ≢ 0) mine.dones
        (at_journal from s each.0 few) (each_stands mine.dones)) in
        record {
          performances = map (performance_of from) mine.dones ++ rest.performances;
          requests_are = map-append (λ (p : Performance). p.request) (map (performance_of from) mine.dones) rest.performances
              ∙ ap (λ l. l ++ map (λ (p : Performance). p.request) rest.performances) (numbers_of from mine.dones ∙ ap (map (λ (t : Telling). t.answer.number)) mine.are)
              ∙ ap (λ l. requests_told s.works ++ l) rest.requests_are;
          each = each-append (IsPerformed setting journal (length shifts) orders last) (map (performance_of from) mine.dones) rest.performances (each_map from mine.dones good) rest.each;
          lost = two_capped (lost_through s) (sum_by lost_of (map (performance_of from) mine.dones)) (sum_by lost_through ss) (sum_by lost_of rest.performances)
              (sum_by lost_through (s ∷ ss)) (sum_by lost_of (map (performance_of from) mine.dones ++ rest.performances)) (2 ^ 64 - 1)
              (ap (λ ts. min (sum_by (λ (t : Telling). t.lost) ts) (2 ^ 64 - 1)) (sym mine.are)
              ∙ summed from mine.dones (each_follows (IsDoneAt from s each.0 few journal last) (λ (d : Done). d.telling.lost ≡ min (count_by is_lost d.outcomes) (2 ^ 64 - 1)) (λ d h. h.0.counted) mine.dones (at_journal from s each.0 few)))
              rest.lost (sum_by-cons lost_through s ss) (sum_by-append lost_of (map (performance_of from) mine.dones) rest.performances);
        }
      where
        numbers_again : (ds : List Done) → map (λ (t : Telling). t.answer.number) (map (λ (d : Done). d.telling) ds) ≡ map (λ (x : Done). x.telling.answer.number) ds
        numbers_again [] = refl
        numbers_again (d ∷ ds) = ap (λ l. d.telling.answer.number ∷ l) (numbers_again ds)

    are_performed : (ps : List Performance) → AllByRecursion (IsPerformed setting journal (length shifts) orders last) ps → ArePerformed setting journal (length shifts) orders last ps
    are_performed [] each = tt
    are_performed (p ∷ ps) each = (each.0, are_performed ps each.1)

    -- only callbacks of taken requests commanded entries
    givers_are : list_all (λ e. (e.by == 0) || is_one_of (taken (past_of journal)) e.by) journal ≡ true
    givers_are = each_seated (λ j e. (e.by == 0) || is_one_of (taken (past_of journal)) e.by) (length shifts) journal all.makers
        (λ j lt. all_pass (by_one_of (row_at rows shifts j)) (λ e. (e.by == 0) || is_one_of (taken (past_of journal)) e.by) (λ e h. wider j e h) (own_entries j journal) (own_of j lt))
      where
        wider : (j : ℕ) (e : Entry) → by_one_of (row_at rows shifts j) e ≡ true → ((e.by == 0) || is_one_of (taken (past_of journal)) e.by) ≡ true
        wider j e h = by (e.by == 0) h
          where
            by : (b : Bool) → (b || is_one_of (row_at rows shifts j) e.by) ≡ true → (b || is_one_of (taken (past_of journal)) e.by) ≡ true
            by true told = refl
            by false told = one_among e.by (taken (past_of journal))
                (λ none. stands_among e.by (row_at rows shifts j) told (omega (arith, none, all.once e.by, row_fewer rows e.by shifts j)))

    obeyed : (lost : ℕ) × ObeysOrders setting journal (length shifts) orders last lost × IsLostCount shifts lost
    obeyed =
        let all_of : ArePerformancesOf shifts = performances_of 0 shifts all.each (omega arith) (λ k. ap (row_at rows shifts) (omega arith)) in
        let row : Ordered (λ (p : Performance). p.request) (IsPerformed setting journal (length shifts) orders last) lost_of all_of.performances (taken (past_of journal)) =
        ordered (λ (p : Performance). p.request) (IsPerformed setting journal (length shifts) orders last) lost_of all_of.performances (taken (past_of journal)) all_of.each
        (λ n. ap (occurrences n) all_of.requests_are ∙ all.once n) in (
          sum_by lost_of row.items,
          record { performances = row.items; requests_are = row.keys; performed = are_performed row.items row.each; givers = givers_are; lost_are = refl },
          all_of.lost ∙ ap (λ n. min n (2 ^ 64 - 1)) (sym row.sum),
        )

-- from what each seat did
pub obeyed_by_shifts : (setting : Setting) (journal : List Entry) (orders : Orders) (last : ℕ) (shifts : List Shift) → AreShiftsOf setting journal orders last shifts →
    (lost : ℕ) × ObeysOrders setting journal (length shifts) orders last lost × IsLostCount shifts lost
obeyed_by_shifts setting journal orders last shifts all = obeyed setting journal orders last all.lawful shifts all
