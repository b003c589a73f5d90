-- What a seat performed of each request whose callback it called, behind all that it did.
use Rattle.std.proofs.Common.{◌≡◌, ◌≢◌, ◌∙◌, ℕ, ◌-◌, ◌^◌, ◌≤◌, ◌==◌, Bool, true, false, not, List, [], ◌∷◌, ◌++◌, Option, Some, None, is_some, length, map, min, refl, sym, ap, subst, arith, append_assoc, eq-eqb, eqb-true}
use Rattle.std.proofs.lemmas.Bool.{and_from, and_parts}
use Rattle.std.proofs.lemmas.List.{append-nil, length-append}
use Rattle.std.proofs.lemmas.List.Folds.{list_all-append}
use Rattle.std.specs.List.{AllByRecursion, list_all}
use Rattle.std.specs.Option.{option_map_or}
use Rattle.std.specs.Prelude.{count_by}
use Rattle.chan_types.specs.Gives.{gives}
use Rattle.chan_types.specs.declared.journal.Entry.{Entry}
use Rattle.chan_types.specs.declared.journal.What.{What}
use Rattle.chan_types.specs.declared.orders.Orders.{Orders}
use Rattle.channel_model.proofs.Theorems.{own-append}
use Rattle.channel_model.specs.Commands.{AllBecame, Outcome, is_lost, positions_from, positions_left}
use Rattle.channel_model.specs.Completion.{occurrences, taken_by}
use Rattle.channel_model.specs.Journal.{own_entries}
use Rattle.channel_model.specs.Known.{Known}
use Rattle.channel_model.specs.Setting.{Setting}
use Rattle.seat_laws.proofs.ListLemmas.{all_pass, apart_by, each_passes, none_first, occurrences_cons, occurrences_here}
use Rattle.seat_laws.proofs.PerformedLemmas.{HasTakenLast, IsOwnPerformed, just_taken, own_longer, own_performed, spares, taken_elsewhere, takes_it, unspared_by}
use Rattle.seat_laws.specs.Shifts.{DoesWorks, Makes, Obeys, Telling, Work, calling, delivering, freely, handed_over, is_free, requests_told, taking, taking_entry, tellings}
use Rattle.ticket_delivery.proofs.Theorems.{command_takes}
use Rattle.ticket_delivery.specs.Performing.{IsBy}

-- ---- single entries

-- nothing that isn't taken is taken
pub untaken : (found : Option ℕ) (request : ℕ) → not (is_some found) ≡ true → not (option_map_or (λ number. number == request) found false) ≡ true
untaken None request fails = refl
untaken (Some n) request fails = absurd (cc fails)

-- an entry that takes nothing and is on nobody's command spares each request but 0
pub free_spares : (request : ℕ) → request ≢ 0 → (e : Entry) → is_free e ≡ true → spares request e ≡ true
free_spares request some e free =
    let both = and_parts (not (is_some (taken_by e.what))) (e.by == 0) free in
    and_from (not (e.by == request)) (not (takes_it request e))
    (apart_by e.by request (λ same. some (sym same ∙ eqb-true e.by 0 both.1)))
    (untaken (taken_by e.what) request both.0)

-- one that takes a request spares each other but 0
taking_spares : (seat taken request : ℕ) → request ≢ 0 → taken ≢ request → spares request (taking_entry seat taken) ≡ true
taking_spares seat taken request some differ = and_from (not (0 == request)) (not (taken == request)) (apart_by 0 request (λ same. some (sym same))) (apart_by taken request differ)

-- what a callback's command left takes nothing
commanded_takes : (request : ℕ) (what : What) → taken_by what ≡ None → not (option_map_or (λ number. number == request) (taken_by what) false) ≡ true
commanded_takes request what none = ap (λ found. not (option_map_or (λ number. number == request) found false)) none

-- and spares each other request
commanded_spares : (by request : ℕ) → by ≢ request → (e : Entry) → IsBy by e → spares request e ≡ true
commanded_spares by request differ e c =
    and_from (not (e.by == request)) (not (takes_it request e)) (apart_by e.by request (λ same. differ (sym c.0 ∙ same))) (commanded_takes request e.what (command_takes e.what c.1))

-- ---- a seat goes on

-- the seat went on, and its new entries pass a test
pub record GoesBy (test : Entry → Bool) (old new : Known) : Type 0 where
  pub since : List Entry
  pub seen : new.seen ≡ old.seen ++ since
  pub passes : list_all test (own_entries old.seat since) ≡ true
  pub setting : new.setting ≡ old.setting
  pub seat : new.seat ≡ old.seat

by_none : (test : Entry → Bool) (old new : Known) → new ≡ old → GoesBy test old new
by_none test old new same = record {
  since = [];
  seen = ap (λ (k : Known). k.seen) same ∙ sym (append-nil old.seen);
  passes = refl;
  setting = ap (λ (k : Known). k.setting) same;
  seat = ap (λ (k : Known). k.seat) same;
}

by_trans : (test : Entry → Bool) (old middle new : Known) → GoesBy test old middle → GoesBy test middle new → GoesBy test old new
by_trans test old middle new a b = record {
  since = a.since ++ b.since;
  seen = b.seen ∙ ap (λ l. l ++ b.since) a.seen ∙ append_assoc old.seen a.since b.since;
  passes = ap (list_all test) (own-append old.seat a.since b.since) ∙ list_all-append test (own_entries old.seat a.since) (own_entries old.seat b.since)
      ∙ and_from (list_all test (own_entries old.seat a.since)) (list_all test (own_entries old.seat b.since)) a.passes (subst (λ s. list_all test (own_entries s b.since) ≡ true) a.seat b.passes);
  setting = b.setting ∙ a.setting;
  seat = b.seat ∙ a.seat;
}

by_makes : (test : Entry → Bool) (made : List Entry) (old new : Known) → Makes made old new → list_all test made ≡ true → GoesBy test old new
by_makes test made old new m passes = record { since = m.since; seen = m.seen; passes = ap (list_all test) m.own ∙ passes; setting = m.setting; seat = m.seat }

module _ (orders : Orders) where
  by_obeys : (test : Entry → Bool) (telling : Telling) (old new : Known) → ((e : Entry) → IsBy telling.answer.number e → test e ≡ true) → Obeys orders telling old new → GoesBy test old new
  by_obeys test telling old new follows o = record {
    since = o.since;
    seen = o.seen;
    passes = each_passes (IsBy telling.answer.number) test follows (own_entries old.seat o.since) o.commanded;
    setting = o.setting;
    seat = o.seat;
  }

  -- a number that stands in the rest stands in the whole
  more_some : (n m : ℕ) (ns : List ℕ) → occurrences n ns ≢ 0 → occurrences n (m ∷ ns) ≢ 0
  more_some n m ns some none = some ((none_first n m ns none).1)

  here_some : (n : ℕ) (ns : List ℕ) → occurrences n (n ∷ ns) ≢ 0
  here_some n ns none = absurd (omega (arith, none, occurrences_here n ns))

  -- what all that a seat did passes
  pub goes_by : (test : Entry → Bool) (works : List Work) (old new : Known) → DoesWorks orders works old new →
      ((e : Entry) → is_free e ≡ true → test e ≡ true) →
      ((seat request : ℕ) → occurrences request (handed_over works) ≢ 0 → test (taking_entry seat request) ≡ true) →
      ((seat request : ℕ) → occurrences request (requests_told works) ≢ 0 → test (taking_entry seat request) ≡ true) →
      ((request : ℕ) → occurrences request (requests_told works) ≢ 0 → (e : Entry) → IsBy request e → test e ≡ true) → GoesBy test old new
  goes_by test [] old new does free takes delivers commanded = by_none test old new does
  goes_by test (freely ∷ works) old new does free takes delivers commanded =
      by_trans test old does.0 new (by_makes test does.1.0 old does.0 does.1.1 (all_pass is_free test free does.1.0 does.1.2)) (goes_by test works does.0 new does.2 free takes delivers commanded)
  goes_by test (taking n ∷ works) old new does free takes delivers commanded =
      by_trans test old does.0 new (by_makes test (taking_entry old.seat n ∷ []) old does.0 does.1 (and_from (test (taking_entry old.seat n)) true (takes old.seat n (here_some n (handed_over works))) refl))
      (goes_by test works does.0 new does.2 free (λ seat m some. takes seat m (more_some m n (handed_over works) some)) delivers commanded)
  goes_by test (calling t ∷ works) old new does free takes delivers commanded =
      by_trans test old does.0 new (by_obeys test t old does.0 (commanded t.answer.number (here_some t.answer.number (requests_told works))) does.1)
      (goes_by test works does.0 new does.2 free takes (λ seat m some. delivers seat m (more_some m t.answer.number (requests_told works) some)) (λ m some. commanded m (more_some m t.answer.number (requests_told works) some)))
  goes_by test (delivering t ∷ works) old new does free takes delivers commanded =
      by_trans test old does.0 new
      (by_trans test old does.1.0 does.0
      (by_makes test (taking_entry old.seat t.answer.number ∷ []) old does.1.0 does.1.1 (and_from (test (taking_entry old.seat t.answer.number)) true (delivers old.seat t.answer.number (here_some t.answer.number (requests_told works))) refl))
      (by_obeys test t does.1.0 does.0 (commanded t.answer.number (here_some t.answer.number (requests_told works))) does.1.2))
      (goes_by test works does.0 new does.2 free takes (λ seat m some. delivers seat m (more_some m t.answer.number (requests_told works) some)) (λ m some. commanded m (more_some m t.answer.number (requests_told works) some)))

  -- what a seat does spares a request whose callback it doesn't call and that it doesn't take
  pub goes_sparing : (works : List Work) (old new : Known) → DoesWorks orders works old new → (request : ℕ) → request ≢ 0 → occurrences request (requests_told works) ≡ 0 → occurrences request (handed_over works) ≡ 0 →
      GoesBy (spares request) old new
  goes_sparing works old new does request some untold unhanded =
      goes_by (spares request) works old new does (free_spares request some)
      (λ seat m stands. taking_spares seat m request some (λ same. stands (ap (λ k. occurrences k (handed_over works)) same ∙ unhanded)))
      (λ seat m stands. taking_spares seat m request some (λ same. stands (ap (λ k. occurrences k (requests_told works)) same ∙ untold)))
      (λ m stands. commanded_spares m request (λ same. stands (ap (λ k. occurrences k (requests_told works)) same ∙ untold)))

-- ---- what it performed

-- a callback that was called, and what its commands came to
pub record Done : Type 0 where
  pub telling : Telling
  pub outcomes : List Outcome

-- as the seat's own entries tell
pub record IsDone (setting : Setting) (orders : Orders) (seat : ℕ) (journal : List Entry) (last : ℕ) (done : Done) : Type 0 where
  pub performed : IsOwnPerformed setting journal seat done.telling.answer.number (gives done.telling.script done.telling.answer orders) last done.outcomes
  pub counted : done.telling.lost ≡ min (count_by is_lost done.outcomes) (2 ^ 64 - 1)

module _ (setting : Setting) (orders : Orders) (seat : ℕ) where
  -- behind entries that spare its request
  pub done_longer : (journal es : List Entry) (last later : ℕ) (d : Done) → last ≤ length journal → last ≤ later → list_all (spares d.telling.answer.number) (own_entries seat es) ≡ true →
      IsDone setting orders seat journal last d → IsDone setting orders seat (journal ++ es) later d
  done_longer journal es last later d within le spared is = record {
    performed = own_longer setting journal es seat d.telling.answer.number (gives d.telling.script d.telling.answer orders) last later d.outcomes within le spared is.performed;
    counted = is.counted;
  }

  -- a callback that a seat called, where it had just taken the request or hadn't taken it
  done_now : (telling : Telling) (old new : Known) (o : Obeys orders telling old new) → old.setting ≡ setting → old.seat ≡ seat →
      list_all (λ e. not (e.by == telling.answer.number)) (own_entries seat old.seen) ≡ true → HasTakenLast seat telling.answer.number old.seen →
      IsDone setting orders seat new.seen (length new.seen) (record { telling = telling; outcomes = o.outcomes })
  done_now telling old new o setting_is seat_is none_by taken_last =
      let commanded : AllByRecursion (IsBy telling.answer.number) (own_entries seat o.since) = subst (λ s. AllByRecursion (IsBy telling.answer.number) (own_entries s o.since)) seat_is o.commanded in
      record {
        performed = subst (λ j. IsOwnPerformed setting j seat telling.answer.number (gives telling.script telling.answer orders) (length j) o.outcomes) (sym o.seen)
            (own_performed setting old.seen o.since seat telling.answer.number (gives telling.script telling.answer orders) o.outcomes none_by taken_last
            (each_passes (IsBy telling.answer.number) (λ e. e.by == telling.answer.number) (λ e c. eq-eqb e.by telling.answer.number c.0) (own_entries seat o.since) commanded)
            (each_passes (IsBy telling.answer.number) (λ e. not (takes_it telling.answer.number e)) (λ e c. commanded_takes telling.answer.number e.what (command_takes e.what c.1)) (own_entries seat o.since) commanded)
            (subst (λ j. AllBecame setting j (length old.seen) (gives telling.script telling.answer orders) o.outcomes) o.seen
            (subst (λ k. AllBecame k new.seen (length old.seen) (gives telling.script telling.answer orders) o.outcomes) setting_is o.became))
            (subst (λ s. positions_from (λ e. e.seat == s) (length old.seen) o.since ≡ positions_left o.outcomes) seat_is o.entries_are));
        counted = o.lost;
      }

  -- all callbacks that it called
  pub record HasDone (works : List Work) (new : Known) : Type 0 where
    pub dones : List Done
    pub are : map (λ d. d.telling) dones ≡ tellings works
    pub each : AllByRecursion (IsDone setting orders seat new.seen (length new.seen)) dones

  -- a request that the seat has left alone so far
  abbrev pub IsClear : Known → ℕ → Type 0
  IsClear old request = (request ≢ 0) × (list_all (spares request) (own_entries seat old.seen) ≡ true)

  -- the same behind entries that spare it
  clear_behind : (old new : Known) (request : ℕ) → old.seat ≡ seat → IsClear old request → GoesBy (spares request) old new → IsClear new request
  clear_behind old new request seat_is clear goes = (
    clear.0,
    ap (λ l. list_all (spares request) (own_entries seat l)) goes.seen ∙ ap (list_all (spares request)) (own-append seat old.seen goes.since)
        ∙ list_all-append (spares request) (own_entries seat old.seen) (own_entries seat goes.since)
        ∙ and_from (list_all (spares request) (own_entries seat old.seen)) (list_all (spares request) (own_entries seat goes.since)) clear.1
        (subst (λ s. list_all (spares request) (own_entries s goes.since) ≡ true) seat_is goes.passes),
  )

  -- one callback more, and then the others
  done_then : (telling : Telling) (works : List Work) (middle new : Known) (outcomes : List Outcome) → DoesWorks orders works middle new → middle.seat ≡ seat → telling.answer.number ≢ 0 →
      occurrences telling.answer.number (requests_told works) ≡ 0 → occurrences telling.answer.number (handed_over works) ≡ 0 →
      IsDone setting orders seat middle.seen (length middle.seen) (record { telling = telling; outcomes = outcomes }) → (rest : HasDone works new) → HasDone (calling telling ∷ works) new
  done_then telling works middle new outcomes does seat_is some untold unhanded is rest =
      let goes : GoesBy (spares telling.answer.number) middle new = goes_sparing orders works middle new does telling.answer.number some untold unhanded in
      let longer : length middle.seen ≤ length new.seen = omega (arith, ap length goes.seen, length-append middle.seen goes.since) in
      record {
        dones = record { telling = telling; outcomes = outcomes } ∷ rest.dones;
        are = ap (λ l. telling ∷ l) rest.are;
        each = (
          subst (λ j. IsDone setting orders seat j (length new.seen) (record { telling = telling; outcomes = outcomes })) (sym goes.seen)
              (done_longer middle.seen goes.since (length middle.seen) (length new.seen) (record { telling = telling; outcomes = outcomes }) (omega arith) longer
              (subst (λ s. list_all (spares telling.answer.number) (own_entries s goes.since) ≡ true) seat_is goes.passes) is),
          rest.each,
        );
      }

  -- fewer of a number that stands no more than once
  fewer : (n m : ℕ) (ns : List ℕ) → occurrences n (m ∷ ns) ≤ 1 → occurrences n ns ≤ 1
  fewer n m ns few = omega (arith, few, occurrences_cons n m ns)

  gone : (n : ℕ) (ns : List ℕ) → occurrences n (n ∷ ns) ≤ 1 → occurrences n ns ≡ 0
  gone n ns few = omega (arith, few, occurrences_here n ns)

  others : (n m : ℕ) (ns : List ℕ) → occurrences n (n ∷ ns) ≤ 1 → occurrences m ns ≢ 0 → n ≢ m
  others n m ns few some same = some (ap (λ k. occurrences k ns) (sym same) ∙ gone n ns few)

  pub all_done : (works : List Work) (old new : Known) → DoesWorks orders works old new → old.setting ≡ setting → old.seat ≡ seat →
      ((n : ℕ) → occurrences n (requests_told works) ≢ 0 → IsClear old n) → ((n : ℕ) → occurrences n (requests_told works) ≤ 1) →
      ((n : ℕ) → occurrences n (requests_told works) ≢ 0 → occurrences n (handed_over works) ≡ 0) → HasDone works new
  all_done [] old new does setting_is seat_is clear once apart = record { dones = []; are = refl; each = tt }
  all_done (freely ∷ works) old new does setting_is seat_is clear once apart =
      let m : Makes does.1.0 old does.0 = does.1.1 in
      let rest = all_done works does.0 new does.2 (m.setting ∙ setting_is) (m.seat ∙ seat_is)
      (λ n some. clear_behind old does.0 n seat_is (clear n some) (by_makes (spares n) does.1.0 old does.0 m (all_pass is_free (spares n) (free_spares n (clear n some).0) does.1.0 does.1.2))) once apart in
      record { dones = rest.dones; are = rest.are; each = rest.each }
  all_done (taking n ∷ works) old new does setting_is seat_is clear once apart =
      let m : Makes (taking_entry old.seat n ∷ []) old does.0 = does.1 in
      let rest = all_done works does.0 new does.2 (m.setting ∙ setting_is) (m.seat ∙ seat_is)
      (λ k some. clear_behind old does.0 k seat_is (clear k some)
      (by_makes (spares k) (taking_entry old.seat n ∷ []) old does.0 m
      (and_from (spares k (taking_entry old.seat n)) true (taking_spares old.seat n k (clear k some).0 ((none_first k n (handed_over works) (apart k some)).0)) refl)))
      once (λ k some. (none_first k n (handed_over works) (apart k some)).1) in
      record { dones = rest.dones; are = rest.are; each = rest.each }
  all_done (calling t ∷ works) old new does setting_is seat_is clear once apart =
      let n : ℕ = t.answer.number in
      let o : Obeys orders t old does.0 = does.1 in
      let mine = clear n (here_some orders n (requests_told works)) in
      let rest = all_done works does.0 new does.2 (o.setting ∙ setting_is) (o.seat ∙ seat_is)
      (λ k some. clear_behind old does.0 k seat_is (clear k (more_some orders k n (requests_told works) some))
      (by_obeys orders (spares k) t old does.0 (commanded_spares n k (others n k (requests_told works) (once n) some)) o))
      (λ k. fewer k n (requests_told works) (once k)) (λ k some. apart k (more_some orders k n (requests_told works) some)) in
      done_then t works does.0 new o.outcomes does.2 (o.seat ∙ seat_is) mine.0 (gone n (requests_told works) (once n)) (apart n (here_some orders n (requests_told works)))
      (done_now t old does.0 o setting_is seat_is (unspared_by n (own_entries seat old.seen) mine.1) (taken_elsewhere seat n old.seen mine.1)) rest
  all_done (delivering t ∷ works) old new does setting_is seat_is clear once apart =
      let n : ℕ = t.answer.number in
      let took : Known = does.1.0 in
      let m : Makes (taking_entry old.seat n ∷ []) old took = does.1.1 in
      let o : Obeys orders t took does.0 = does.1.2 in
      let mine = clear n (here_some orders n (requests_told works)) in
      let own : own_entries seat m.since ≡ taking_entry old.seat n ∷ [] = subst (λ s. own_entries s m.since ≡ taking_entry old.seat n ∷ []) seat_is m.own in
      let takes : list_all (takes_it n) (own_entries seat m.since) ≡ true = ap (list_all (takes_it n)) own ∙ and_from (n == n) true (eq-eqb n n refl) refl in
      let free : list_all (λ e. not (e.by == n)) (own_entries seat m.since) ≡ true = ap (list_all (λ e. not (e.by == n))) own ∙ and_from (not (0 == n)) true (apart_by 0 n (λ same. mine.0 (sym same))) refl in
      let taken_last : HasTakenLast seat n took.seen =
      subst (HasTakenLast seat n) (sym m.seen) (just_taken seat n old.seen m.since mine.1 (ap length own) takes free) in
      let none_by : list_all (λ e. not (e.by == n)) (own_entries seat took.seen) ≡ true =
      ap (λ l. list_all (λ e. not (e.by == n)) (own_entries seat l)) m.seen ∙ ap (list_all (λ e. not (e.by == n))) (own-append seat old.seen m.since)
      ∙ list_all-append (λ e. not (e.by == n)) (own_entries seat old.seen) (own_entries seat m.since)
      ∙ and_from (list_all (λ e. not (e.by == n)) (own_entries seat old.seen)) (list_all (λ e. not (e.by == n)) (own_entries seat m.since)) (unspared_by n (own_entries seat old.seen) mine.1) free in
      let rest = all_done works does.0 new does.2 (o.setting ∙ m.setting ∙ setting_is) (o.seat ∙ m.seat ∙ seat_is)
      (λ k some. clear_behind old does.0 k seat_is (clear k (more_some orders k n (requests_told works) some))
      (by_trans (spares k) old took does.0
      (by_makes (spares k) (taking_entry old.seat n ∷ []) old took m
      (and_from (spares k (taking_entry old.seat n)) true (taking_spares old.seat n k (clear k (more_some orders k n (requests_told works) some)).0 (others n k (requests_told works) (once n) some)) refl))
      (by_obeys orders (spares k) t took does.0 (commanded_spares n k (others n k (requests_told works) (once n) some)) o)))
      (λ k. fewer k n (requests_told works) (once k)) (λ k some. apart k (more_some orders k n (requests_told works) some)) in
      let done = done_then t works does.0 new o.outcomes does.2 (o.seat ∙ m.seat ∙ seat_is) mine.0 (gone n (requests_told works) (once n)) (apart n (here_some orders n (requests_told works)))
      (done_now t took does.0 o (m.setting ∙ setting_is) (m.seat ∙ seat_is) none_by taken_last) rest in
      record { dones = done.dones; are = done.are; each = done.each }
