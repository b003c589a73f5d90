-- Each entry of a session's journal is of one of its seats, and of the kinds that are that seat's.
use Rattle.std.proofs.Common.{◌≡◌, ◌≢◌, ◌∙◌, ◌<◌, ℕ, suc, ◌+◌, ◌==◌, ◌&&◌, ◌||◌, Bool, true, false, not, cond, nat_lt, List, [], ◌∷◌, is_some, length, map, refl, sym, ap, subst, arith, eq-eqb, eqb-true, ne_eqb, lt-ltb}
use Rattle.std.proofs.lemmas.Bool.{and_from, and_parts}
use Rattle.std.proofs.lemmas.List.Folds.{list_all-append}
use Rattle.std.specs.List.{AllByRecursion, list_all}
use Rattle.std.specs.Prelude.{slice_index_or}
use Rattle.atomic_table.specs.Seated.{TableId}
use Rattle.chan_types.specs.declared.journal.Entry.{Entry}
use Rattle.chan_types.specs.declared.journal.What.{What}
use Rattle.chan_types.specs.declared.journal.What.TheVariants.{Accept, Arrive, Cancel, Destroy, Expire, Fault, Servers, Start, Take}
use Rattle.chan_types.specs.declared.orders.Orders.{Orders}
use Rattle.channel_model.specs.Completion.{taken_by}
use Rattle.channel_model.specs.Course.{is_of_turn}
use Rattle.channel_model.specs.Journal.{accepted_by, is_destroy, own_entries}
use Rattle.channel_model.specs.Servers.{servers_set_by}
use Rattle.channel_model.specs.Setting.{Setting}
use Rattle.channel_table.specs.Commanded.{IsOfCommand}
use Rattle.pass_laws.proofs.CourseLemmas.{went_along}
use Rattle.pass_laws.proofs.ListLemmas.{each_parts}
use Rattle.pass_laws.specs.Courses.{Course, EndsBehind, IsCourseIn}
use Rattle.seat_laws.proofs.ListLemmas.{each_passes}
use Rattle.seat_laws.proofs.ShiftLemmas.{GoesBy}
use Rattle.shared_channel.specs.Making.{new_pass}
use Rattle.shared_channel.specs.Passes.{PassView, desk_of}
use Rattle.shared_channel.specs.Settling.{told_through}
use Rattle.shared_channel.specs.declared.finishing.Finished.{Finished}
use Rattle.worker_rounds.specs.Going.{IsCommanded}
use Rattle.worker_session.specs.Stepping.{is_of_run}
use Rattle.shared_session.proofs.EndLemmas as end
use Rattle.shared_session.proofs.GivingLemmas.{obeys_gives}
use Rattle.shared_session.proofs.SeatLemmas.{of_number, own_seated, seats_pass}
use Rattle.shared_session.specs.Giving.{OnlyGives, OnlyObeys}
use Rattle.shared_session.specs.Seats.{is_command, is_first_work, is_seated, seats_for}

-- ---- kinds of entries

-- what the first seat makes, what the second does, and what the workers' seats do
abbrev pub by_first : Entry → Bool
by_first entry = cond (entry.by == 0) (is_first_work entry) (is_command entry)

abbrev by_second : Entry → Bool
by_second entry = cond (entry.by == 0) (is_some (taken_by entry.what)) (is_command entry)

abbrev by_worker : Entry → Bool
by_worker entry = not (entry.by == 0) && is_command entry

command_kind : (seat by : ℕ) (what : What) → IsOfCommand what → is_command (record { seat = seat; by = by; what = what }) ≡ true
command_kind seat by (Accept number spec script) is = refl
command_kind seat by Cancel is = refl
command_kind seat by Destroy is = refl
command_kind seat by (Take number) is = absurd is
command_kind seat by (Start number leg server link id mix moment) is = absurd is
command_kind seat by (Arrive server link bytes) is = absurd is
command_kind seat by (Expire number leg moment) is = absurd is
command_kind seat by (Fault server link moment) is = absurd is
command_kind seat by (Servers list) is = absurd is

at_true : (b x y : Bool) → b ≡ true → x ≡ true → cond b x y ≡ true
at_true true x y is h = h
at_true false x y is h = absurd (cc is)

at_false : (b x y : Bool) → b ≡ false → y ≡ true → cond b x y ≡ true
at_false true x y is h = absurd (cc is)
at_false false x y is h = h

-- what was commanded
pub commanded_first : (e : Entry) → IsOfCommand e.what → e.by ≢ 0 → by_first e ≡ true
commanded_first e is some = at_false (e.by == 0) (is_first_work e) (is_command e) (ne_eqb e.by 0 some) (command_kind e.seat e.by e.what is)

commanded_second : (e : Entry) → IsOfCommand e.what → e.by ≢ 0 → by_second e ≡ true
commanded_second e is some = at_false (e.by == 0) (is_some (taken_by e.what)) (is_command e) (ne_eqb e.by 0 some) (command_kind e.seat e.by e.what is)

commanded_worker : (e : Entry) → IsOfCommand e.what → e.by ≢ 0 → by_worker e ≡ true
commanded_worker e is some = and_from (not (e.by == 0)) (is_command e) (ap not (ne_eqb e.by 0 some)) (command_kind e.seat e.by e.what is)

-- what takes a request
takes_second : (e : Entry) → is_some (taken_by e.what) ≡ true → e.by ≡ 0 → by_second e ≡ true
takes_second e took none = at_true (e.by == 0) (is_some (taken_by e.what)) (is_command e) (eq-eqb e.by 0 none) took

-- what only a run makes
pub run_first : (e : Entry) → is_of_run e ≡ true → by_first e ≡ true
run_first e run =
    let parts = and_parts (is_of_turn e || is_some (servers_set_by e.what)) (e.by == 0) run in
    at_true (e.by == 0) (is_first_work e) (is_command e) parts.1 (one (is_some (accepted_by e.what)) (is_of_turn e) (is_some (servers_set_by e.what)) (is_destroy e.what) (is_some (taken_by e.what)) parts.0)
  where
    one : (a t s d k : Bool) → (t || s) ≡ true → (a || t || s || d || k) ≡ true
    one true t s d k is = refl
    one false true s d k is = refl
    one false false true d k is = refl
    one false false false d k is = absurd (cc is)

-- ---- of these seats

-- an entry of the first seat, of the second, or of a worker's
first_seated : (lt zeroth next none first take command : Bool) → lt ≡ true → zeroth ≡ true → cond none first command ≡ true → (lt && cond none ((zeroth && first) || (next && take)) command) ≡ true
first_seated true true next true true take command below is h = refl
first_seated true true next true false take command below is h = absurd (cc h)
first_seated true true next false first take command below is h = h
first_seated true false next none first take command below is h = absurd (cc is)
first_seated false zeroth next none first take command below is h = absurd (cc below)

second_seated : (lt other next none take command : Bool) → lt ≡ true → next ≡ true → cond none take command ≡ true → (lt && cond none (other || (next && take)) command) ≡ true
second_seated true true true true take command below is h = refl
second_seated true false true true take command below is h = h
second_seated true other true false take command below is h = h
second_seated true other false none take command below is h = absurd (cc is)
second_seated false other next none take command below is h = absurd (cc below)

worker_seated : (lt none work command : Bool) → lt ≡ true → (not none && command) ≡ true → (lt && cond none work command) ≡ true
worker_seated true true work command below h = absurd (cc h)
worker_seated true false work command below h = h
worker_seated false none work command below h = absurd (cc below)

-- what passes two tests passes a third
both_pass : (f g h : Entry → Bool) → ((e : Entry) → f e ≡ true → g e ≡ true → h e ≡ true) → (es : List Entry) → list_all f es ≡ true → list_all g es ≡ true → list_all h es ≡ true
both_pass f g h follows [] one two = refl
both_pass f g h follows (e ∷ es) one two =
    let p = and_parts (f e) (list_all f es) one in
    let q = and_parts (g e) (list_all g es) two in
    and_from (h e) (list_all h es) (follows e p.0 q.0) (both_pass f g h follows es p.1 q.1)

module _ (workers n : ℕ) (below : n < seats_for workers) where
  -- the entry's seat is below
  seat_below : (e : Entry) → (e.seat == n) ≡ true → nat_lt e.seat (seats_for workers) ≡ true
  seat_below e is = lt-ltb e.seat (seats_for workers) (subst (λ k. k < seats_for workers) (sym (eqb-true e.seat n is)) below)

  -- own entries of seat n, by a test that only that seat's entries pass
  seat_passes : (test : Entry → Bool) → ((e : Entry) → (e.seat == n) ≡ true → nat_lt e.seat (seats_for workers) ≡ true → test e ≡ true → is_seated workers e ≡ true) → (es : List Entry) → list_all test (own_entries n es) ≡ true →
      list_all (is_seated workers) (own_entries n es) ≡ true
  seat_passes test follows es all = both_pass (λ e. e.seat == n) test (is_seated workers) (λ e is h. follows e is (seat_below e is) h) (own_entries n es) (own_seated n es) all

  worker_passes : (es : List Entry) → list_all by_worker (own_entries n es) ≡ true → list_all (is_seated workers) (own_entries n es) ≡ true
  worker_passes es all =
      seat_passes by_worker (λ e is lt h. worker_seated (nat_lt e.seat (seats_for workers)) (e.by == 0) (((e.seat == 0) && is_first_work e) || ((e.seat == 1) && is_some (taken_by e.what))) (is_command e) lt h) es all

first_passes : (workers : ℕ) (es : List Entry) → list_all by_first (own_entries 0 es) ≡ true → list_all (is_seated workers) (own_entries 0 es) ≡ true
first_passes workers es all =
    seat_passes workers 0 (omega arith) by_first
    (λ e is lt h. first_seated (nat_lt e.seat (seats_for workers)) (e.seat == 0) (e.seat == 1) (e.by == 0) (is_first_work e) (is_some (taken_by e.what)) (is_command e) lt is h) es all

second_passes : (workers : ℕ) (es : List Entry) → list_all by_second (own_entries 1 es) ≡ true → list_all (is_seated workers) (own_entries 1 es) ≡ true
second_passes workers es all =
    seat_passes workers 1 (omega arith) by_second
    (λ e is lt h. second_seated (nat_lt e.seat (seats_for workers)) ((e.seat == 0) && is_first_work e) (e.seat == 1) (e.by == 0) (is_some (taken_by e.what)) (is_command e) lt is h) es all

-- ---- a session's seats

module _ {J : Type 0} (told : J → List Entry) (orders : Orders) (lock : TableId) (setting : Setting) (count : ℕ) (turner owner : Course) (others : List Course) (finished : Finished J) (ends : EndsBehind told orders lock setting count (turner ∷ owner ∷ others) finished)
    (given : OnlyGives owner.after) (obeyed : AllByRecursion OnlyObeys (map (λ (c : Course). c.after) others)) where
  gives : AllByRecursion OnlyGives (map (λ (c : Course). c.after) (owner ∷ others))
  gives = (given, obeys_gives (map (λ (c : Course). c.after) others) obeyed)

  abbrev journal : List Entry
  journal = told finished.journal

  -- each pass has its place's number
  along : (c : Course) → IsCourseIn orders setting journal c → GoesBy (λ e. true) (desk_of c.before) (desk_of c.after)
  along c in_ = went_along orders c.works (desk_of c.before) (desk_of c.after) in_.does.does

  owner_number : owner.after.number ≡ 1
  owner_number = (along owner ends.each.1.0).seat ∙ ap (λ (p : PassView). p.number) (ends.made.each 1 owner.before (some count ends.made.all))
    where
      some : (n : ℕ) → suc (suc (length (map (λ (c : Course). c.before) others))) ≡ n → 1 < n
      some n is = omega (arith, is)

  numbers_below : AllByRecursion (λ (p : PassView). p.number < count) (map (λ (c : Course). c.after) (turner ∷ owner ∷ others))
  numbers_below = by (turner ∷ owner ∷ others) 0 (λ k d lt. let same : k ≡ 0 + k = omega arith in ends.made.each k d (omega (arith, lt, ends.made.all)) ∙ ap (new_pass lock setting count) same) (omega (arith, ends.made.all)) ends.each
    where
      by : (cs : List Course) (from : ℕ) → ((k : ℕ) (d : PassView) → k < length (map (λ (c : Course). c.before) cs) → slice_index_or (map (λ (c : Course). c.before) cs) k d ≡ new_pass lock setting count (from + k)) →
          from + length (map (λ (c : Course). c.before) cs) ≡ count → AllByRecursion (IsCourseIn orders setting journal) cs → AllByRecursion (λ (p : PassView). p.number < count) (map (λ (c : Course). c.after) cs)
      by [] from new as_many each = tt
      by (c ∷ cs) from new as_many each =
          let next : (k : ℕ) → from + suc k ≡ from + 1 + k = (λ k. omega arith) in
          let number : c.after.number ≡ from + 0 = (along c each.0).seat ∙ ap (λ (p : PassView). p.number) (new 0 c.before (omega arith)) in
          (omega (arith, number, as_many), by cs (from + 1) (λ k d lt. new (suc k) d (omega (arith, lt)) ∙ ap (new_pass lock setting count) (next k)) (omega (arith, as_many)) each.1)

  -- what the workers made was commanded
  workers_made : (ps : List PassView) → AllByRecursion OnlyObeys ps → AllByRecursion (λ (p : PassView). p.own ≡ own_entries p.number journal) ps → AllByRecursion (end.IsFated told orders lock setting count turner (owner ∷ others) finished ends gives) (told_through ps) →
      AllByRecursion (λ (p : PassView). list_all by_worker (own_entries p.number journal) ≡ true) ps
  workers_made [] obeys owns fated = tt
  workers_made (p ∷ ps) obeys owns fated =
      let split = each_parts (end.IsFated told orders lock setting count turner (owner ∷ others) finished ends gives) p.calls (told_through ps) fated in (
        ap (list_all by_worker) (sym owns.0) ∙ each_passes (IsCommanded p.calls) by_worker (λ e is. commanded_worker e is.1 (end.told_some told orders lock setting count turner (owner ∷ others) finished ends gives p.calls split.0 e.by is.0)) p.own obeys.0,
        workers_made ps obeys.1 owns.1 split.1,
      )

  module _ (workers : ℕ) (as_many : count ≡ seats_for workers) (mine : list_all by_first turner.after.own ≡ true) where
    all_first : list_all by_first (own_entries 0 journal) ≡ true
    all_first =
        let number = end.first_number told orders lock setting count turner (owner ∷ others) finished ends gives in
        let made = end.made_passes told orders lock setting count turner (owner ∷ others) finished ends gives by_first (λ seat. refl) (λ seat request. refl) (λ request e differs by. commanded_first e by.1 (λ none. differs (sym by.0 ∙ none))) in
        ap (λ n. list_all by_first (own_entries n journal)) (sym number) ∙ ap (list_all by_first) (end.first_owns told orders lock setting count turner (owner ∷ others) finished ends gives)
        ∙ list_all-append by_first turner.after.own ends.finishes.journal.made ∙ and_from (list_all by_first turner.after.own) (list_all by_first ends.finishes.journal.made) mine made

    all_second : list_all by_second (own_entries 1 journal) ≡ true
    all_second =
        ap (λ n. list_all by_second (own_entries n journal)) (sym owner_number)
        ∙ (end.others_pass told orders lock setting count turner (owner ∷ others) finished ends gives by_second takes_second commanded_second).0

    each_worker : (ps : List PassView) → AllByRecursion (λ (p : PassView). p.number < count) ps → AllByRecursion (λ (p : PassView). list_all by_worker (own_entries p.number journal) ≡ true) ps → AllByRecursion (λ (p : PassView). list_all (is_seated workers) (own_entries p.number journal) ≡ true) ps
    each_worker [] below all = tt
    each_worker (p ∷ ps) below all = (worker_passes workers p.number (subst (λ n. p.number < n) as_many below.0) journal all.0, each_worker ps below.1 all.1)

    pub seated : list_all (is_seated workers) journal ≡ true
    seated =
        let number = end.first_number told orders lock setting count turner (owner ∷ others) finished ends gives in
        seats_pass (is_seated workers) (map (λ (p : PassView). p.number) (map (λ (c : Course). c.after) (turner ∷ owner ∷ others))) journal ends.finishes.journal.makers
        (of_number (λ k. list_all (is_seated workers) (own_entries k journal) ≡ true) (map (λ (c : Course). c.after) (turner ∷ owner ∷ others)) (
          subst (λ n. list_all (is_seated workers) (own_entries n journal) ≡ true) (sym number) (first_passes workers journal all_first),
          (
            subst (λ n. list_all (is_seated workers) (own_entries n journal) ≡ true) (sym owner_number) (second_passes workers journal all_second),
            each_worker (map (λ (c : Course). c.after) others) numbers_below.1.1
                (workers_made (map (λ (c : Course). c.after) others) obeyed ends.finishes.journal.owns.1
                (each_parts (end.IsFated told orders lock setting count turner (owner ∷ others) finished ends gives) owner.after.calls (told_through (map (λ (c : Course). c.after) others)) (end.behind_fates told orders lock setting count turner (owner ∷ others) finished ends gives)).1),
          ),
        ))
