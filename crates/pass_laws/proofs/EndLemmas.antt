-- From what was done through each pass of a channel that was finished it follows that its callbacks were obeyed.
use Rattle.std.proofs.Common.{◌≡◌, ◌≢◌, ◌∙◌, ℕ, zero, suc, ◌+◌, ◌-◌, ◌^◌, ◌≤◌, ◌<◌, ◌==◌, Bool, true, false, nat_lt, List, [], ◌∷◌, ◌++◌, Some, None, length, map, flat_map, min, sum_by, refl, sym, ap, subst, arith, append_assoc, eq-eqb, eqb-true, lt-ltb}
use Rattle.std.proofs.lemmas.Bool.{and_from}
use Rattle.std.proofs.lemmas.List.{append-nil, length-append, length-map, map-append}
use Rattle.std.proofs.lemmas.List.Sorted.{sum_by-IsPermutation}
use Rattle.std.proofs.lemmas.List.Sums.{sum_by-append, sum_by-cons}
use Rattle.std.specs.List.{AllByRecursion, list_all, range_with_len}
use Rattle.std.specs.List.Sorted.{IsPermutation}
use Rattle.std.specs.Prelude.{cond, is_some, slice_index_or}
use mathlib.Core.List.{IsPrefix}
use Rattle.atomic_table.specs.Seated.{TableId}
use Rattle.chan_types.specs.declared.answer.Answer.{Answer}
use Rattle.chan_types.specs.declared.journal.Entry.{Entry}
use Rattle.chan_types.specs.declared.orders.Orders.{Orders}
use Rattle.channel_model.proofs.Theorems.{each-append, occurrences-append, own-append, requests_numbered, taken_then_ready, unasked_fate, completes_once, asked_at_most_once}
use Rattle.channel_model.specs.Commands.{ObeysOrders}
use Rattle.channel_model.specs.Completion.{fate, occurrences, ready, requests, taken}
use Rattle.channel_model.specs.Journal.{accepted, own_entries, past_of}
use Rattle.channel_model.specs.Known.{Calls}
use Rattle.channel_model.specs.Lawful.{IsLawful, IsLawfulPast}
use Rattle.channel_model.specs.Meanings.{Takes}
use Rattle.channel_model.specs.Setting.{Setting}
use Rattle.completion_ticket.specs.States.{CalledState}
use Rattle.seat_laws.proofs.ListLemmas.{all_hold}
use Rattle.seat_laws.proofs.ObeyLemmas.{obeyed_by_shifts}
use Rattle.seat_laws.proofs.ShiftLemmas.{GoesBy, goes_by}
use Rattle.seat_laws.specs.Shifts.{AreShiftsFrom, DoesWork, DoesWorks, IsOfRequest, IsShift, Shift, Telling, Work, called_for, freely, handed_over, is_free, lost_through, requests_told, tellings}
use Rattle.shared_channel.specs.Finishing.{DeliversSome, Finishes, HasSeenOwn, IsNumberOfOne}
use Rattle.shared_channel.specs.Making.{new_pass}
use Rattle.shared_channel.specs.Passes.{PassView, desk_of}
use Rattle.shared_channel.specs.Settling.{told_through}
use Rattle.shared_channel.specs.Under.{plan_of}
use Rattle.shared_channel.specs.declared.finishing.Finished.{Finished}
use Rattle.pass_laws.specs.Courses.{AreObeyed, AreObeyedUpTo, Course, DoesThrough, EndsBehind, HasItsScript, IsCourseIn, answers_told, lost_in}
use Rattle.pass_laws.proofs.CourseLemmas.{called_for-append, handed_over-append, tellings-append, went_along, works_more}
use Rattle.pass_laws.proofs.FirstLemmas.{Delivered, delivered_any, delivered_some, destroys_freely, finds_freely, lost_kept}
use Rattle.pass_laws.proofs.ListLemmas.{both_of_each, each_mapped, each_parts, nothing_behind, same_front, steps_to}

-- ---- the passes of a new channel

-- passes numbered from here on, as they are made
abbrev NewFrom : TableId → Setting → ℕ → ℕ → List PassView → Type 0
NewFrom lock setting count from [] = Unit {0}
NewFrom lock setting count from (p ∷ ps) = (p ≡ new_pass lock setting count from) × NewFrom lock setting count (from + 1) ps

new_from : (lock : TableId) (setting : Setting) (count from : ℕ) (ps : List PassView) → ((k : ℕ) (d : PassView) → k < length ps → slice_index_or ps k d ≡ new_pass lock setting count (from + k)) → NewFrom lock setting count from ps
new_from lock setting count from [] each = tt
new_from lock setting count from (p ∷ ps) each =
    let here : from + 0 ≡ from = omega arith in
    let next : (k : ℕ) → from + suc k ≡ from + 1 + k = (λ k. omega arith) in
    (each 0 p (omega arith) ∙ ap (new_pass lock setting count) here, new_from lock setting count (from + 1) ps (λ k d lt. each (suc k) d (omega (arith, lt)) ∙ ap (new_pass lock setting count) (next k)))

-- ---- how often a number stands

occurrences-sum : (n : ℕ) (ms : List ℕ) → occurrences n ms ≡ sum_by (λ m. cond (m == n) 1 0) ms
occurrences-sum n [] = refl
occurrences-sum n (m ∷ ms) = by (m == n) (occurrences-sum n ms) ∙ sym (sum_by-cons (λ k. cond (k == n) 1 0) m ms)
  where
    by : (b : Bool) → occurrences n ms ≡ sum_by (λ k. cond (k == n) 1 0) ms → cond b (occurrences n ms + 1) (occurrences n ms) ≡ cond b 1 0 + sum_by (λ k. cond (k == n) 1 0) ms
    by true rest = omega (arith, rest)
    by false rest = omega (arith, rest)

occurrences-permutation : (n : ℕ) (ms ks : List ℕ) → IsPermutation ms ks → occurrences n ks ≡ occurrences n ms
occurrences-permutation n ms ks p = occurrences-sum n ks ∙ sum_by-IsPermutation (λ m. cond (m == n) 1 0) ms ks p ∙ sym (occurrences-sum n ms)

-- the filter of entries of one number
own_all : (n : ℕ) (es : List Entry) → AllByRecursion (λ (e : Entry). e.seat ≡ n) es → own_entries n es ≡ es
own_all n [] each = refl
own_all n (e ∷ es) each = rw (eq-eqb e.seat n each.0) (ap (λ l. e ∷ l) (own_all n es each.1))

module _ {J : Type 0} (told : J → List Entry) (orders : Orders) (lock : TableId) (setting : Setting) (count : ℕ) where
  -- ---- one pass behind the first

  -- what a pass's seat did in all its time
  abbrev shift_of : Course → Shift
  shift_of c = record { before = desk_of c.before; works = c.works; after = desk_of c.after }

  -- an answer is its request's fate
  abbrev IsFated : List Entry → Answer → Type 0
  IsFated journal a = fate setting a.number (past_of journal) ≡ Some a

  -- a pass as it was made had seen, told and lost nothing, and keeps its number and the setting
  kept_number : (from : ℕ) (c : Course) → c.before ≡ new_pass lock setting count from → DoesThrough orders c.works c.before c.after → (c.after.number ≡ from) × (c.after.setting ≡ setting)
  kept_number from c new through =
      let along : GoesBy (λ e. true) (desk_of c.before) (desk_of c.after) = went_along orders c.works (desk_of c.before) (desk_of c.after) through.does in
      (along.seat ∙ ap (λ (p : PassView). p.number) new, along.setting ∙ ap (λ (p : PassView). p.setting) new)

  -- its callbacks were told their requests' fates, and are theirs
  of_requests_in : (journal : List Entry) (from : ℕ) (c : Course) → c.before ≡ new_pass lock setting count from → IsCourseIn orders setting journal c → AllByRecursion (IsFated journal) c.after.calls → AllByRecursion (IsOfRequest setting journal) (tellings c.works)
  of_requests_in journal from c new is fates =
      both_of_each (λ (t : Telling). IsFated journal t.answer) (HasItsScript setting journal) (IsOfRequest setting journal) (λ t f s. record { fated = f; scripted = s }) (tellings c.works)
      (each_mapped (λ (t : Telling). t.answer) (IsFated journal) (tellings c.works)
      (subst (AllByRecursion (IsFated journal)) (is.does.calls ∙ ap (λ (p : PassView). p.calls ++ answers_told c.works) new) fates))
      is.scripts

  one_shift : (journal seen made : List Entry) (last from : ℕ) (c : Course) → c.before ≡ new_pass lock setting count from → IsCourseIn orders setting journal c → IsPrefix c.after.seen seen → journal ≡ seen ++ made → length seen ≤ last →
      HasSeenOwn c.after → c.after.own ≡ own_entries c.after.number journal → AllByRecursion (IsFated journal) c.after.calls → IsShift setting journal orders last from (shift_of c)
  one_shift journal seen made last from c new is p parts within own owns fates =
      let number : c.after.number ≡ from = (kept_number from c new is.does).0 in
      let whole : journal ≡ c.after.seen ++ (p.0 ++ made) = parts ∙ ap (λ l. l ++ made) (sym p.1) ∙ append_assoc c.after.seen p.0 made in
      let none : own_entries c.after.number (p.0 ++ made) ≡ [] =
      nothing_behind c.after.own (own_entries c.after.number (p.0 ++ made))
      (owns ∙ ap (own_entries c.after.number) whole ∙ own-append c.after.number c.after.seen (p.0 ++ made) ∙ ap (λ l. l ++ own_entries c.after.number (p.0 ++ made)) (sym own)) in
      record {
        seat_is = ap (λ (q : PassView). q.number) new;
        setting_is = ap (λ (q : PassView). q.setting) new;
        unseen = ap (λ (q : PassView). q.seen) new;
        does = is.does.does;
        in_time = omega (arith, within, ap length p.1, length-append c.after.seen p.0);
        behind = p.0 ++ made;
        parts = whole;
        free_behind = ap (λ k. list_all is_free (own_entries k (p.0 ++ made))) (sym number) ∙ ap (list_all is_free) none;
        of_requests = of_requests_in journal from c new is fates;
        apart = is.apart;
      }

  shifts_from : (journal seen made : List Entry) (last from : ℕ) (cs : List Course) → NewFrom lock setting count from (map (λ (c : Course). c.before) cs) → AllByRecursion (IsCourseIn orders setting journal) cs →
      AllByRecursion (λ (p : PassView). IsPrefix p.seen seen) (map (λ (c : Course). c.after) cs) → journal ≡ seen ++ made → length seen ≤ last → AllByRecursion HasSeenOwn (map (λ (c : Course). c.after) cs) →
      AllByRecursion (λ (p : PassView). p.own ≡ own_entries p.number journal) (map (λ (c : Course). c.after) cs) → AllByRecursion (IsFated journal) (told_through (map (λ (c : Course). c.after) cs)) →
      AreShiftsFrom setting journal orders last from (map shift_of cs)
  shifts_from journal seen made last from [] new each ps parts within own owns fates = tt
  shifts_from journal seen made last from (c ∷ cs) new each ps parts within own owns fates =
      let split = each_parts (IsFated journal) c.after.calls (told_through (map (λ (x : Course). x.after) cs)) fates in (
        one_shift journal seen made last from c new.0 each.0 ps.0 parts within own.0 owns.0 split.0,
        shifts_from journal seen made last (from + 1) cs new.1 each.1 ps.1 parts within own.1 owns.1 split.1,
      )

  -- the numbers of passes are below the first's and their count
  numbers_low : (journal : List Entry) (from : ℕ) (cs : List Course) → NewFrom lock setting count from (map (λ (c : Course). c.before) cs) → AllByRecursion (IsCourseIn orders setting journal) cs →
      (k n : ℕ) → k < length (map (λ (p : PassView). p.number) (map (λ (c : Course). c.after) cs)) → slice_index_or (map (λ (p : PassView). p.number) (map (λ (c : Course). c.after) cs)) k n ≡ n → n < from + length cs
  numbers_low journal from [] new each k n lt is = absurd (omega (arith, lt))
  numbers_low journal from (c ∷ cs) new each zero n lt is = omega (arith, is, (kept_number from c new.0 each.0.does).0)
  numbers_low journal from (c ∷ cs) new each (suc k) n lt is = omega (arith, numbers_low journal (from + 1) cs new.1 each.1 k n (omega (arith, lt)) is)

  seated : (journal es : List Entry) (cs : List Course) (seats : ℕ) → seats ≡ length cs → NewFrom lock setting count 0 (map (λ (c : Course). c.before) cs) → AllByRecursion (IsCourseIn orders setting journal) cs →
      AllByRecursion (λ (e : Entry). IsNumberOfOne (map (λ (c : Course). c.after) cs) e.seat) es → list_all (λ e. nat_lt e.seat seats) es ≡ true
  seated journal [] cs seats same new each makers = refl
  seated journal (e ∷ es) cs seats same new each makers =
      and_from (nat_lt e.seat seats) (list_all (λ x. nat_lt x.seat seats) es)
      (lt-ltb e.seat seats (omega (arith, same, numbers_low journal 0 cs new each makers.0.0 e.seat makers.0.1 makers.0.2)))
      (seated journal es cs seats same new each makers.1)

  -- how many requests were lost through passes
  sum_lost : (journal : List Entry) (from : ℕ) (cs : List Course) → NewFrom lock setting count from (map (λ (c : Course). c.before) cs) → AllByRecursion (IsCourseIn orders setting journal) cs →
      min (sum_by (λ (p : PassView). p.lost) (map (λ (c : Course). c.after) cs)) (2 ^ 64 - 1) ≡ min (sum_by lost_through (map shift_of cs)) (2 ^ 64 - 1)
  sum_lost journal from [] new each = refl
  sum_lost journal from (c ∷ cs) new each =
      capped c.after.lost c.before.lost (lost_in c.works) (sum_by (λ (p : PassView). p.lost) (map (λ (x : Course). x.after) cs)) (sum_by lost_through (map shift_of cs))
      (sum_by (λ (p : PassView). p.lost) (c.after ∷ map (λ (x : Course). x.after) cs)) (sum_by lost_through (shift_of c ∷ map shift_of cs)) (2 ^ 64 - 1)
      each.0.does.lost (ap (λ (p : PassView). p.lost) new.0) (sum_lost journal (from + 1) cs new.1 each.1)
      (sum_by-cons (λ (p : PassView). p.lost) c.after (map (λ (x : Course). x.after) cs)) (sum_by-cons lost_through (shift_of c) (map shift_of cs))
    where
      capped : (a z b x y whole other limit : ℕ) → min a limit ≡ min (z + b) limit → z ≡ 0 → min x limit ≡ min y limit → whole ≡ a + x → other ≡ b + y → min whole limit ≡ min other limit
      capped a z b x y whole other limit one none more left right = omega (arith, one, none, more, left, right)

  -- the numbers that were told through passes
  told_numbers : (journal : List Entry) (n from : ℕ) (cs : List Course) → NewFrom lock setting count from (map (λ (c : Course). c.before) cs) → AllByRecursion (IsCourseIn orders setting journal) cs →
      occurrences n (map (λ (a : Answer). a.number) (told_through (map (λ (c : Course). c.after) cs))) ≡ occurrences n (flat_map (λ (s : Shift). requests_told s.works) (map shift_of cs))
  told_numbers journal n from [] new each = refl
  told_numbers journal n from (c ∷ cs) new each =
      ap (occurrences n) (map-append (λ (a : Answer). a.number) c.after.calls (told_through (map (λ (x : Course). x.after) cs)))
      ∙ occurrences-append n (map (λ (a : Answer). a.number) c.after.calls) (map (λ (a : Answer). a.number) (told_through (map (λ (x : Course). x.after) cs)))
      ∙ ap (λ l. occurrences n l + occurrences n (map (λ (a : Answer). a.number) (told_through (map (λ (x : Course). x.after) cs)))) (numbers_of c from new.0 each.0.does)
      ∙ ap (λ k. occurrences n (requests_told c.works) + k) (told_numbers journal n (from + 1) cs new.1 each.1)
      ∙ sym (occurrences-append n (requests_told c.works) (flat_map (λ (s : Shift). requests_told s.works) (map shift_of cs)))
    where
      again : (ts : List Telling) → map (λ (a : Answer). a.number) (map (λ (t : Telling). t.answer) ts) ≡ map (λ (t : Telling). t.answer.number) ts
      again [] = refl
      again (t ∷ ts) = ap (λ l. t.answer.number ∷ l) (again ts)

      numbers_of : (c : Course) (from : ℕ) → c.before ≡ new_pass lock setting count from → DoesThrough orders c.works c.before c.after → map (λ (a : Answer). a.number) c.after.calls ≡ requests_told c.works
      numbers_of c from new through = ap (map (λ (a : Answer). a.number)) (through.calls ∙ ap (λ (p : PassView). p.calls ++ answers_told c.works) new) ∙ again (tellings c.works)

  -- ---- each request was taken as often as it was told

  fated_if_told : (journal : List Entry) (n : ℕ) (told_ : List Answer) → AllByRecursion (IsFated journal) told_ → occurrences n (map (λ (a : Answer). a.number) told_) ≢ 0 → is_some (fate setting n (past_of journal)) ≡ true
  fated_if_told journal n [] fates some = absurd (some refl)
  fated_if_told journal n (a ∷ told_) fates some = by (a.number == n) refl some (fated_if_told journal n told_ fates.1)
    where
      by : (b : Bool) → (a.number == n) ≡ b → cond b (occurrences n (map (λ (x : Answer). x.number) told_) + 1) (occurrences n (map (λ (x : Answer). x.number) told_)) ≢ 0 →
          (occurrences n (map (λ (x : Answer). x.number) told_) ≢ 0 → is_some (fate setting n (past_of journal)) ≡ true) → is_some (fate setting n (past_of journal)) ≡ true
      by true is some rest = ap (λ k. is_some (fate setting k (past_of journal))) (sym (eqb-true a.number n is)) ∙ ap is_some fates.0
      by false is some rest = rest some

  taken_as_told : (journal : List Entry) (total : ℕ) (told_ : List Answer) → IsLawfulPast setting (past_of journal) → ready setting (past_of journal) ≡ [] → total ≡ length (accepted (past_of journal)) →
      IsPermutation (range_with_len 1 total) (map (λ (a : Answer). a.number) told_) → AllByRecursion (IsFated journal) told_ → (n : ℕ) → occurrences n (map (λ (a : Answer). a.number) told_) ≡ occurrences n (taken (past_of journal))
  taken_as_told journal total told_ lawful none_ready accepted_are numbers fates n =
      let asked : occurrences n (map (λ (a : Answer). a.number) told_) ≡ occurrences n (requests (past_of journal)) =
      occurrences-permutation n (range_with_len 1 total) (map (λ (a : Answer). a.number) told_) numbers ∙ ap (λ k. occurrences n (range_with_len 1 k)) accepted_are ∙ ap (occurrences n) (sym (requests_numbered setting (past_of journal) lawful)) in
      let taken_is : occurrences n (taken (past_of journal)) ≡ cond (is_some (fate setting n (past_of journal))) 1 0 =
      ap (occurrences n) (sym (taken_then_ready setting (past_of journal) lawful ∙ ap (λ l. taken (past_of journal) ++ l) none_ready ∙ append-nil (taken (past_of journal)))) ∙ completes_once setting n (past_of journal) lawful in
      by (occurrences n (map (λ (a : Answer). a.number) told_)) refl asked taken_is (asked_at_most_once setting n (past_of journal) lawful)
    where
      by : (k : ℕ) → occurrences n (map (λ (a : Answer). a.number) told_) ≡ k → k ≡ occurrences n (requests (past_of journal)) → occurrences n (taken (past_of journal)) ≡ cond (is_some (fate setting n (past_of journal))) 1 0 →
          occurrences n (requests (past_of journal)) ≤ 1 → k ≡ occurrences n (taken (past_of journal))
      by zero is asked taken_is few = sym (taken_is ∙ ap (λ found. cond (is_some found) 1 0) (unasked_fate setting n (past_of journal) (sym asked)))
      by (suc k) is asked taken_is few =
          let one : occurrences n (taken (past_of journal)) ≡ 1 = taken_is ∙ ap (λ b. cond b 1 0) (fated_if_told journal n told_ fates (λ none. absurd (omega (arith, none, is)))) in
          omega (arith, asked, few, one)

  -- ---- the channel

  module _ (c : Course) (cs : List Course) (finished : Finished J) (ends : EndsBehind told orders lock setting count (c ∷ cs) finished) where
    abbrev journal : List Entry
    journal = told finished.journal

    abbrev f : Finishes told orders (map (λ (x : Course). x.after) (c ∷ cs)) finished
    f = ends.finishes

    abbrev all : PassView
    all = ends.finishes.all

    abbrev passes : List PassView
    passes = map (λ (x : Course). x.after) cs

    abbrev calleds : List CalledState
    calleds = ends.finishes.emptied.delivered.called

    new : NewFrom lock setting count 0 (map (λ (x : Course). x.before) (c ∷ cs))
    new = new_from lock setting count 0 (map (λ (x : Course). x.before) (c ∷ cs))
        (λ k d lt. let same : k ≡ 0 + k = omega arith in ends.made.each k d (omega (arith, lt, ends.made.all)) ∙ ap (new_pass lock setting count) same)

    number : c.after.number ≡ 0
    number = (kept_number 0 c new.0 ends.each.0.does).0

    all_number : all.number ≡ 0
    all_number = ap (λ (p : PassView). p.number) f.joined.first ∙ number

    all_setting : all.setting ≡ setting
    all_setting = ap (λ (p : PassView). p.setting) f.joined.first ∙ (kept_number 0 c new.0 ends.each.0.does).1

    lawful : IsLawful setting journal
    lawful = subst (λ k. IsLawful k journal) all_setting f.nothing.lawful

    fates : AllByRecursion (IsFated journal) finished.calls
    fates = subst (λ k. AllByRecursion (λ (a : Answer). fate k a.number (past_of journal) ≡ Some a) finished.calls) all_setting f.answers.fates

    told_fates : AllByRecursion (IsFated journal) (told_through (c.after ∷ passes))
    told_fates = (each_parts (IsFated journal) (told_through (c.after ∷ passes)) f.tells.told (subst (AllByRecursion (IsFated journal)) f.tells.parts fates)).0

    -- what the first pass did until all were joined: nothing
    own_seen : own_entries c.after.number all.seen ≡ all.own
    own_seen = same_front (own_entries c.after.number all.seen) all.own f.journal.made
        (ap (λ l. own_entries c.after.number all.seen ++ l) (sym (own_all c.after.number f.journal.made (subst (λ k. AllByRecursion (λ (e : Entry). e.seat ≡ k) f.journal.made) (ap (λ (p : PassView). p.number) f.joined.first) f.journal.made_by_first)))
        ∙ sym (own-append c.after.number all.seen f.journal.made) ∙ ap (own_entries c.after.number) (sym f.journal.parts)
        ∙ ap (λ k. own_entries k journal) (sym (ap (λ (p : PassView). p.number) f.joined.first)) ∙ f.journal.first_owns)

    to_all : DoesWork orders freely (desk_of c.after) (desk_of all)
    to_all =
        let p : IsPrefix c.after.seen all.seen = f.joined.seen.0 in
        let none : own_entries c.after.number p.0 ≡ [] =
        nothing_behind c.after.own (own_entries c.after.number p.0)
        (ap (λ (q : PassView). q.own) (sym f.joined.first) ∙ sym own_seen ∙ ap (own_entries c.after.number) (sym p.1) ∙ own-append c.after.number c.after.seen p.0
        ∙ ap (λ l. l ++ own_entries c.after.number p.0) (sym f.joined.own.0)) in (
          [],
          record {
            since = p.0;
            seen = sym p.1;
            own = none;
            setting = ap (λ (q : PassView). q.setting) f.joined.first;
            seat = ap (λ (q : PassView). q.number) f.joined.first;
          },
          refl,
        )

    abbrev destroyed : PassView
    destroyed = ends.finishes.emptied.destroyed

    destroying : DoesWork orders freely (desk_of all) (desk_of destroyed)
    destroying = destroys_freely orders f.emptied.is_first all destroyed f.emptied.destroys

    finding : DoesWork orders freely (desk_of f.emptied.delivered.middle) (desk_of f.last)
    finding = finds_freely orders f.emptied.delivered.middle f.last f.emptied.delivered.none

    destroyed_setting : destroyed.setting ≡ setting
    destroyed_setting = f.emptied.destroys.desk.setting ∙ all_setting

    rest_shifts : (last : ℕ) → length all.seen ≤ last → AreShiftsFrom setting journal orders last 1 (map shift_of cs)
    rest_shifts last within =
        shifts_from journal all.seen f.journal.made last 1 cs new.1 ends.each.1 f.joined.seen.1 f.journal.parts within f.joined.own.1 f.journal.owns
        (each_parts (IsFated journal) c.after.calls (told_through passes) told_fates).1

    told_is : (n : ℕ) → occurrences n (map (λ (a : Answer). a.number) finished.calls)
        ≡ (occurrences n (requests_told c.works) + occurrences n (flat_map (λ (s : Shift). requests_told s.works) (map shift_of cs))) + occurrences n (map (λ (x : CalledState). x.number) calleds)
    told_is n =
        ap (λ l. occurrences n (map (λ (a : Answer). a.number) l)) f.tells.parts
        ∙ ap (occurrences n) (map-append (λ (a : Answer). a.number) (told_through (c.after ∷ passes)) f.tells.told)
        ∙ occurrences-append n (map (λ (a : Answer). a.number) (told_through (c.after ∷ passes))) (map (λ (a : Answer). a.number) f.tells.told)
        ∙ ap (λ l. occurrences n (map (λ (a : Answer). a.number) (told_through (c.after ∷ passes))) + occurrences n l) f.tells.numbers
        ∙ ap (λ k. k + occurrences n (map (λ (x : CalledState). x.number) calleds))
        (told_numbers journal n 0 (c ∷ cs) new ends.each ∙ occurrences-append n (requests_told c.works) (flat_map (λ (s : Shift). requests_told s.works) (map shift_of cs)))

    -- whatever the first seat is said to have done, where it is all
    conclude : (last : ℕ) (first : Shift) → length all.seen ≤ last → IsShift setting journal orders last 0 first →
        ((n : ℕ) → occurrences n (requests_told first.works) ≡ occurrences n (requests_told c.works) + occurrences n (map (λ (x : CalledState). x.number) calleds)) →
        (extra : ℕ) → lost_through first ≡ lost_in c.works + extra → min finished.lost (2 ^ 64 - 1) ≡ min (all.lost + extra) (2 ^ 64 - 1) → AreObeyedUpTo told orders lock setting count (c ∷ cs) finished last
    conclude last first within is told_first extra lost_first lost_is =
        let shifts : List Shift = first ∷ map shift_of cs in
        let seats : length shifts ≡ length (c ∷ cs) = omega (arith, length-map cs shift_of) in
        let total : length shifts ≡ count = seats ∙ sym (length-map (c ∷ cs) (λ (x : Course). x.before)) ∙ ends.made.all in
        let obeyed = obeyed_by_shifts setting journal orders last shifts (record {
          lawful = lawful;
          each = (is, rest_shifts last within);
          makers = seated journal journal (c ∷ cs) (length shifts) seats new ends.each f.journal.makers;
          once = λ n. occurrences-append n (requests_told first.works) (flat_map (λ (s : Shift). requests_told s.works) (map shift_of cs))
              ∙ omega (arith, told_first n, told_is n, taken_as_told journal finished.accepted finished.calls lawful.allowed (subst (λ k. ready k (past_of journal) ≡ []) all_setting f.nothing.none_ready) f.accepted_are f.answers.numbers fates n);
        }) in (
          obeyed.0,
          subst (λ k. ObeysOrders setting journal k orders last obeyed.0) total obeyed.1,
          steps_to (min finished.lost (2 ^ 64 - 1)) (min (sum_by lost_through shifts) (2 ^ 64 - 1)) (min obeyed.0 (2 ^ 64 - 1))
              (capped finished.lost all.lost extra (sum_by (λ (p : PassView). p.lost) (map (λ (x : Course). x.after) (c ∷ cs))) (sum_by lost_through (map shift_of (c ∷ cs))) (sum_by lost_through shifts) (lost_through first) (lost_in c.works)
              (sum_by lost_through (map shift_of cs)) (2 ^ 64 - 1) lost_is f.joined.lost (sum_lost journal 0 (c ∷ cs) new ends.each) (sum_by-cons lost_through (shift_of c) (map shift_of cs)) (sum_by-cons lost_through first (map shift_of cs)) lost_first)
              obeyed.2,
        )
      where
        capped : (end all_ extra passes_ whole shifts_ first_ mine others limit : ℕ) → min end limit ≡ min (all_ + extra) limit → all_ ≡ min passes_ limit → min passes_ limit ≡ min whole limit → whole ≡ mine + others → shifts_ ≡ first_ + others → first_ ≡ mine + extra →
            min end limit ≡ min shifts_ limit
        capped end all_ extra passes_ whole shifts_ first_ mine others limit a b d e g h = omega (arith, a, b, d, e, g, h)

    seat_first : c.before.number ≡ 0
    seat_first = ap (λ (p : PassView). p.number) new.0

    -- ---- with all that was delivered as the channel was finished

    some : Delivered orders setting journal destroyed f.emptied.delivered.middle calleds
    some = delivered_some orders setting journal calleds destroyed f.emptied.delivered.middle destroyed_setting f.emptied.delivered.some (finding.1.since, sym finding.1.seen ∙ sym f.seen)

    abbrev works_all : List Work
    works_all = c.works ++ (freely ∷ freely ∷ (some.works ++ freely ∷ []))

    abbrev first_all : Shift
    first_all = record { before = desk_of c.before; works = works_all; after = desk_of f.last }

    tellings_all : tellings works_all ≡ tellings c.works ++ tellings some.works
    tellings_all = tellings-append c.works (freely ∷ freely ∷ (some.works ++ freely ∷ [])) ∙ ap (λ l. tellings c.works ++ l) (tellings-append some.works (freely ∷ []) ∙ append-nil (tellings some.works))

    told_all : requests_told works_all ≡ requests_told c.works ++ requests_told some.works
    told_all = ap (map (λ (t : Telling). t.answer.number)) tellings_all ∙ map-append (λ (t : Telling). t.answer.number) (tellings c.works) (tellings some.works)

    handed_all : handed_over works_all ≡ handed_over c.works
    handed_all =
        handed_over-append c.works (freely ∷ freely ∷ (some.works ++ freely ∷ [])) ∙ ap (λ l. handed_over c.works ++ l) (handed_over-append some.works (freely ∷ []) ∙ append-nil (handed_over some.works) ∙ some.handed) ∙ append-nil (handed_over c.works)

    called_all : called_for works_all ≡ called_for c.works
    called_all =
        called_for-append c.works (freely ∷ freely ∷ (some.works ++ freely ∷ [])) ∙ ap (λ l. called_for c.works ++ l) (called_for-append some.works (freely ∷ []) ∙ append-nil (called_for some.works) ∙ some.for_none) ∙ append-nil (called_for c.works)

    does_all : DoesWorks orders works_all (desk_of c.before) (desk_of f.last)
    does_all =
        works_more orders c.works (freely ∷ freely ∷ (some.works ++ freely ∷ [])) (desk_of c.before) (desk_of c.after) (desk_of f.last) ends.each.0.does.does (
          desk_of all,
          to_all,
          (
            desk_of destroyed,
            destroying,
            works_more orders some.works (freely ∷ []) (desk_of destroyed) (desk_of f.emptied.delivered.middle) (desk_of f.last) some.through.does (desk_of f.last, finding, refl),
          ),
        )

    seen_all : length all.seen ≤ length journal
    seen_all = omega (arith, ap length f.journal.parts, length-append all.seen f.journal.made)

    shift_all : IsShift setting journal orders (length journal) 0 first_all
    shift_all = record {
      seat_is = seat_first;
      setting_is = ap (λ (p : PassView). p.setting) new.0;
      unseen = ap (λ (p : PassView). p.seen) new.0;
      does = does_all;
      in_time = omega (arith, ap length f.seen);
      behind = [];
      parts = f.seen ∙ sym (append-nil f.last.seen);
      free_behind = refl;
      of_requests = subst (AllByRecursion (IsOfRequest setting journal)) (sym tellings_all)
          (each-append (IsOfRequest setting journal) (tellings c.works) (tellings some.works)
          (of_requests_in journal 0 c new.0 ends.each.0 (each_parts (IsFated journal) c.after.calls (told_through passes) told_fates).0) some.of_requests);
      apart = λ n called. ap (occurrences n) handed_all ∙ ends.each.0.apart n (subst (λ l. occurrences n l ≢ 0) called_all called);
    }

    up_to_end : AreObeyedUpTo told orders lock setting count (c ∷ cs) finished (length journal)
    up_to_end = conclude (length journal) first_all seen_all shift_all
        (λ n. ap (occurrences n) told_all ∙ occurrences-append n (requests_told c.works) (requests_told some.works) ∙ ap (λ l. occurrences n (requests_told c.works) + occurrences n l) some.numbers)
        (lost_in some.works) (ap (sum_by (λ (t : Telling). t.lost)) tellings_all ∙ sum_by-append (λ (t : Telling). t.lost) (tellings c.works) (tellings some.works))
        (ap (λ n. min n (2 ^ 64 - 1)) (f.lost ∙ lost_kept f.emptied.delivered.middle f.last f.emptied.delivered.none.desk)
        ∙ some.through.lost ∙ ap (λ n. min (n + lost_in some.works) (2 ^ 64 - 1)) (lost_kept all destroyed f.emptied.destroys.desk))

    went_on_behind : GoesBy (λ e. true) (desk_of destroyed) (desk_of f.last)
    went_on_behind =
        went_along orders (some.works ++ freely ∷ []) (desk_of destroyed) (desk_of f.last)
        (works_more orders some.works (freely ∷ []) (desk_of destroyed) (desk_of f.emptied.delivered.middle) (desk_of f.last) some.through.does (desk_of f.last, finding, refl))

    -- ---- where nothing was

    module _ (nothing : calleds ≡ []) where
      middle_is : f.emptied.delivered.middle ≡ destroyed
      middle_is = subst (λ l. DeliversSome orders destroyed l f.emptied.delivered.middle) nothing f.emptied.delivered.some

      behind_all : DoesWorks orders (freely ∷ freely ∷ []) (desk_of all) (desk_of f.last)
      behind_all = (desk_of destroyed, destroying, (desk_of f.last, subst (λ p. DoesWork orders freely (desk_of p) (desk_of f.last)) middle_is finding, refl))

      goes_free : GoesBy is_free (desk_of all) (desk_of f.last)
      goes_free = goes_by orders is_free (freely ∷ freely ∷ []) (desk_of all) (desk_of f.last) behind_all (λ e h. h) (λ s n none. absurd (none refl)) (λ s n none. absurd (none refl)) (λ n none e by. absurd (none refl))

      abbrev first_part : Shift
      first_part = record { before = desk_of c.before; works = c.works ++ freely ∷ []; after = desk_of all }

      tellings_part : tellings (c.works ++ freely ∷ []) ≡ tellings c.works
      tellings_part = tellings-append c.works (freely ∷ []) ∙ append-nil (tellings c.works)

      shift_part : IsShift setting journal orders (length all.seen) 0 first_part
      shift_part = record {
        seat_is = seat_first;
        setting_is = ap (λ (p : PassView). p.setting) new.0;
        unseen = ap (λ (p : PassView). p.seen) new.0;
        does = works_more orders c.works (freely ∷ []) (desk_of c.before) (desk_of c.after) (desk_of all) ends.each.0.does.does (desk_of all, to_all, refl);
        in_time = omega arith;
        behind = goes_free.since;
        parts = f.seen ∙ goes_free.seen;
        free_behind = subst (λ k. list_all is_free (own_entries k goes_free.since) ≡ true) all_number goes_free.passes;
        of_requests = subst (AllByRecursion (IsOfRequest setting journal)) (sym tellings_part)
            (of_requests_in journal 0 c new.0 ends.each.0 (each_parts (IsFated journal) c.after.calls (told_through passes) told_fates).0);
        apart = λ n called. ap (occurrences n) (handed_over-append c.works (freely ∷ []) ∙ append-nil (handed_over c.works))
            ∙ ends.each.0.apart n (subst (λ l. occurrences n l ≢ 0) (called_for-append c.works (freely ∷ []) ∙ append-nil (called_for c.works)) called);
      }

      up_to_all : AreObeyedUpTo told orders lock setting count (c ∷ cs) finished (length all.seen)
      up_to_all = conclude (length all.seen) first_part (omega arith) shift_part
          (λ n. ap (λ l. occurrences n (map (λ (t : Telling). t.answer.number) l)) tellings_part ∙ omega arith ∙ ap (λ l. occurrences n (requests_told c.works) + occurrences n (map (λ (x : CalledState). x.number) l)) (sym nothing))
          0 (ap (sum_by (λ (t : Telling). t.lost)) tellings_part ∙ omega arith)
          (ap (λ n. min n (2 ^ 64 - 1)) (f.lost ∙ lost_kept f.emptied.delivered.middle f.last f.emptied.delivered.none.desk ∙ ap (λ (p : PassView). p.lost) middle_is ∙ lost_kept all destroyed f.emptied.destroys.desk) ∙ omega arith)

  -- behind the Destroy the first seat's journal went on to the end
  pub went_behind : (courses : List Course) (finished : Finished J) (ends : EndsBehind told orders lock setting count courses finished) → GoesBy (λ e. true) (desk_of ends.finishes.emptied.destroyed) (desk_of ends.finishes.last)
  went_behind [] finished ends = absurd ends.finishes.joined.first
  went_behind (c ∷ cs) finished ends = went_on_behind c cs finished ends

  pub setting_of_all : (courses : List Course) (finished : Finished J) (ends : EndsBehind told orders lock setting count courses finished) → ends.finishes.all.setting ≡ setting
  setting_of_all [] finished ends = absurd ends.finishes.joined.first
  setting_of_all (c ∷ cs) finished ends = all_setting c cs finished ends

  pub are_obeyed_in : (courses : List Course) (finished : Finished J) (ends : EndsBehind told orders lock setting count courses finished) → AreObeyed told orders lock setting count courses finished ends
  are_obeyed_in [] finished ends = absurd ends.finishes.joined.first
  are_obeyed_in (c ∷ cs) finished ends = record { obeyed = up_to_end c cs finished ends; in_time = up_to_all c cs finished ends }

-- behind the first of some deliveries the journal went on to the end
pub went_took : (orders : Orders) (c : CalledState) (calleds : List CalledState) (old middle last : PassView) (some : DeliversSome orders old (c ∷ calleds) middle) → Calls (Takes plan_of None) 0 (desk_of middle) (desk_of last) → GoesBy (λ e. true) (desk_of some.1.1) (desk_of last)
went_took orders c calleds old middle last some none =
    let rest = delivered_any orders calleds some.0 middle some.2 in
    let done = some.1.3.performed in
    let behind : GoesBy (λ e. true) (desk_of some.0) (desk_of last) =
    went_along orders (rest.0 ++ freely ∷ []) (desk_of some.0) (desk_of last) (works_more orders rest.0 (freely ∷ []) (desk_of some.0) (desk_of middle) (desk_of last) rest.1 (desk_of last, finds_freely orders middle last none, refl)) in
    record {
      since = done.since ++ behind.since;
      seen = behind.seen ∙ ap (λ l. l ++ behind.since) done.seen ∙ append_assoc some.1.1.seen done.since behind.since;
      passes = all_hold (λ e. true) (λ e. refl) (own_entries some.1.1.number (done.since ++ behind.since));
      setting = behind.setting ∙ done.setting;
      seat = behind.seat ∙ done.seat;
    }

pub are_obeyed : {J : Type 0} {told : J → List Entry} (orders : Orders) (lock : TableId) (setting : Setting) (count : ℕ) (courses : List Course) (finished : Finished J) → (ends : EndsBehind told orders lock setting count courses finished) →
    AreObeyed told orders lock setting count courses finished ends
are_obeyed {told = told} orders lock setting count courses finished ends = are_obeyed_in told orders lock setting count courses finished ends
