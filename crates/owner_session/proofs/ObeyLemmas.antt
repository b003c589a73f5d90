-- Callbacks that were obeyed stay so in a longer journal, and the callback of one request more is obeyed once its commands were performed.
use Rattle.std.proofs.Common.{◌≡◌, ◌≢◌, ◌∙◌, ℕ, ◌+◌, ◌≤◌, ◌==◌, ◌&&◌, ◌||◌, Bool, true, false, not, nat_lt, nat_le, List, [], ◌∷◌, ◌++◌, Option, Some, None, is_some, length, map, find, option_map, refl, sym, ap, subst, arith, eqb-true, le-leb, leb-true}
use Rattle.std.proofs.lemmas.Bool.{and_from, and_parts}
use Rattle.std.proofs.lemmas.List.{append-nil}
use Rattle.std.proofs.lemmas.List.Folds.{list_all-append}
use Rattle.std.specs.List.{AllByRecursion, list_all}
use Rattle.std.specs.Option.{option_map_or}
use Rattle.std.specs.Prelude.{option_to_list}
use Rattle.chan_types.specs.Gives.{gives}
use Rattle.chan_types.specs.Plans.{Plan}
use Rattle.chan_types.specs.declared.answer.Answer.{Answer}
use Rattle.chan_types.specs.declared.journal.Entry.{Entry}
use Rattle.chan_types.specs.declared.orders.Orders.{Orders}
use Rattle.channel_model.proofs.Theorems.{all_became_longer, followed_by-append, requests_numbered, script_of-later, unasked_fate}
use Rattle.channel_model.specs.Commands.{AllBecame, ArePerformed, IsPerformed, ObeysOrders, Outcome, Performance, commands_for, is_before_next, is_before_other_work, is_one_of, is_other_work, is_own_take, position_of, positions_from}
use Rattle.channel_model.specs.Completion.{fate, occurrences, requests, taken, taken_by}
use Rattle.channel_model.specs.Journal.{Accepted, Past, accepted, followed_by, past_of, script_of}
use Rattle.channel_model.specs.Lawful.{IsLawfulPast}
use Rattle.channel_model.specs.Setting.{Setting}
use Rattle.seat_laws.proofs.ListLemmas.{each_follows, first_passes, no_zero, or_left}
use Rattle.seat_laws.proofs.OwnLemmas.{positions_above}
use Rattle.seat_laws.proofs.PerformedLemmas.{before_more, spares, takes_it}
use Rattle.seat_laws.proofs.ShiftLemmas.{untaken}
use Rattle.owner_session.proofs.ListLemmas.{all_pass, apart_by, found_if_asked, no_positions}
use Rattle.ticket_delivery.proofs.Theorems.{fate_behind, positions-append}

-- ---- fates and scripts

-- behind further entries a script is the same
pub script_later : (request : ℕ) (past : Past) (es : List Entry) (script : Plan) → script_of request past ≡ Some script → script_of request (followed_by past es) ≡ Some script
script_later request past [] script is = is
script_later request past (e ∷ es) script is = script_later request (e.what ∷ past) es script (script_of-later request e.what past script is)

-- the past of a journal that goes on
pub past_on : (journal es : List Entry) → past_of (journal ++ es) ≡ followed_by (past_of journal) es
past_on journal es = followed_by-append [] journal es

-- a request with a fate was accepted, with a script, and its number isn't 0
pub record IsDone (setting : Setting) (past : Past) (request : ℕ) : Type 0 where
  pub answer : Answer
  pub fated : fate setting request past ≡ Some answer
  pub script : Plan
  pub scripted : script_of request past ≡ Some script
  pub numbered : request ≢ 0

module _ (setting : Setting) (past : Past) (lawful : IsLawfulPast setting past) (request : ℕ) (answer : Answer) (fated : fate setting request past ≡ Some answer) where
  asked_for : occurrences request (requests past) ≢ 0
  asked_for none = absurd (let h : None ≡ Some answer = sym (unasked_fate setting request past none) ∙ fated in cc)

  some_script : (found : Option Accepted) → find (λ r. r.number == request) (accepted past) ≡ found → is_some found ≡ true → (script : Plan) × (script_of request past ≡ Some script)
  some_script None is some = absurd (cc some)
  some_script (Some r) is some = (r.script, ap (option_map (λ q. q.script)) is)

  pub done_of : IsDone setting past request
  done_of =
      let script = some_script (find (λ r. r.number == request) (accepted past)) refl (found_if_asked (λ (r : Accepted). r.number) request (accepted past) asked_for) in
      record {
        answer = answer;
        fated = fated;
        script = script.0;
        scripted = script.1;
        numbered = λ zero_. asked_for (ap (λ n. occurrences n (requests past)) zero_ ∙ ap (occurrences 0) (requests_numbered setting past lawful) ∙ no_zero 1 (length (accepted past)) (omega arith));
      }

-- behind further entries too
abbrev pub done_later : (setting : Setting) (journal es : List Entry) (request : ℕ) → IsDone setting (past_of journal) request → IsDone setting (past_of (journal ++ es)) request
done_later setting journal es request d = record {
  answer = d.answer;
  fated = ap (fate setting request) (past_on journal es) ∙ fate_behind setting request (past_of journal) es d.answer d.fated;
  script = d.script;
  scripted = ap (script_of request) (past_on journal es) ∙ script_later request (past_of journal) es d.script d.scripted;
  numbered = d.numbered;
}

-- what such a request's callback commands
pub commands_of_done : (setting : Setting) (journal : List Entry) (orders : Orders) (request : ℕ) (d : IsDone setting (past_of journal) request) → commands_for setting journal orders request ≡ gives d.script d.answer orders
commands_of_done setting journal orders request d =
    ap (λ found. option_map_or (λ script. option_map_or (λ answer. gives script answer orders) (fate setting request (past_of journal)) []) found []) d.scripted
    ∙ ap (λ found. option_map_or (λ answer. gives d.script answer orders) found []) d.fated

-- ---- entries that leave what one request's callback commanded as it was

-- a disjunct that holds where nothing else is asked
both_no : (a b : Bool) → not b ≡ true → not (a && b) ≡ true
both_no true b fails = fails
both_no false b fails = refl

module _ (setting : Setting) (journal es : List Entry) (orders : Orders) (last later : ℕ) (within : last ≤ length journal) (le : last ≤ later) where
  module _ (p : Performance) (done : IsDone setting (past_of journal) p.request) (spared : list_all (spares p.request) es ≡ true) where
    abbrev unspared_by : list_all (λ e. not (e.by == p.request)) es ≡ true
    unspared_by = all_pass (spares p.request) (λ e. not (e.by == p.request)) (λ e h. (and_parts (not (e.by == p.request)) (not (takes_it p.request e)) h).0) es spared

    takes_same : positions_from (is_own_take p.seat p.request) 0 (journal ++ es) ≡ positions_from (is_own_take p.seat p.request) 0 journal
    takes_same =
        positions-append (is_own_take p.seat p.request) 0 journal es
        ∙ ap (λ l. positions_from (is_own_take p.seat p.request) 0 journal ++ l) (no_positions (is_own_take p.seat p.request) (0 + length journal) es
        (all_pass (spares p.request) (λ e. not (is_own_take p.seat p.request e))
        (λ e h. both_no (e.seat == p.seat) (takes_it p.request e) (and_parts (not (e.by == p.request)) (not (takes_it p.request e)) h).1) es spared))
        ∙ append-nil (positions_from (is_own_take p.seat p.request) 0 journal)

    commands_same : commands_for setting journal orders p.request ≡ commands_for setting (journal ++ es) orders p.request
    commands_same =
        commands_of_done setting journal orders p.request done
        ∙ sym (commands_of_done setting (journal ++ es) orders p.request (done_later setting journal es p.request done))

    before_longer : (position : ℕ) → position ≤ last → is_before_other_work journal p.seat p.request position ≡ true → is_before_other_work (journal ++ es) p.seat p.request position ≡ true
    before_longer position in_time h =
        let others : positions_from (is_other_work p.seat p.request) 0 (journal ++ es) ≡ positions_from (is_other_work p.seat p.request) 0 journal ++ positions_from (is_other_work p.seat p.request) (0 + length journal) es =
        positions-append (is_other_work p.seat p.request) 0 journal es in
        ap (λ ts. list_all (λ t. is_before_next position t (positions_from (is_other_work p.seat p.request) 0 (journal ++ es))) ts) takes_same
        ∙ all_pass
        (λ t. is_before_next position t (positions_from (is_other_work p.seat p.request) 0 journal))
        (λ t. is_before_next position t (positions_from (is_other_work p.seat p.request) 0 (journal ++ es)))
        (λ t before. subst (λ ps. is_before_next position t ps ≡ true) (sym others)
        (before_more position t (positions_from (is_other_work p.seat p.request) 0 journal) (positions_from (is_other_work p.seat p.request) (0 + length journal) es)
        (positions_above (is_other_work p.seat p.request) (0 + length journal) position es (omega (arith, in_time, within))) before))
        (positions_from (is_own_take p.seat p.request) 0 journal) h

    befores : (outcomes : List Outcome) → list_all (λ o. nat_le (position_of o) last) outcomes ≡ true → list_all (λ o. is_before_other_work journal p.seat p.request (position_of o)) outcomes ≡ true →
        list_all (λ o. is_before_other_work (journal ++ es) p.seat p.request (position_of o)) outcomes ≡ true
    befores [] in_time h = refl
    befores (o ∷ os) in_time h =
        let now = first_passes (λ x. nat_le (position_of x) last) o os in_time in
        let here = first_passes (λ x. is_before_other_work journal p.seat p.request (position_of x)) o os h in
        and_from (is_before_other_work (journal ++ es) p.seat p.request (position_of o)) (list_all (λ x. is_before_other_work (journal ++ es) p.seat p.request (position_of x)) os)
        (before_longer (position_of o) (leb-true (position_of o) last now.0) here.0) (befores os now.1 here.1)

    pub performed_longer : IsPerformed setting journal 1 orders last p → IsPerformed setting (journal ++ es) 1 orders later p
    performed_longer is = record {
      seated = is.seated;
      became = subst (λ cs. AllBecame setting (journal ++ es) 0 cs p.outcomes) commands_same (all_became_longer setting journal es 0 (commands_for setting journal orders p.request) p.outcomes is.became);
      entries_are =
          positions-append (λ e. e.by == p.request) 0 journal es
          ∙ ap (λ l. positions_from (λ e. e.by == p.request) 0 journal ++ l) (no_positions (λ e. e.by == p.request) (0 + length journal) es unspared_by)
          ∙ append-nil (positions_from (λ e. e.by == p.request) 0 journal) ∙ is.entries_are;
      of_seat = list_all-append (λ e. not (e.by == p.request) || (e.seat == p.seat)) journal es
          ∙ and_from (list_all (λ e. not (e.by == p.request) || (e.seat == p.seat)) journal) (list_all (λ e. not (e.by == p.request) || (e.seat == p.seat)) es) is.of_seat
          (all_pass (λ e. not (e.by == p.request)) (λ e. not (e.by == p.request) || (e.seat == p.seat)) (λ e h. or_left (not (e.by == p.request)) (e.seat == p.seat) h) es unspared_by);
      in_time = all_pass (λ o. nat_le (position_of o) last) (λ o. nat_le (position_of o) later)
          (λ o h. le-leb (position_of o) later (omega (arith, le, leb-true (position_of o) last h))) p.outcomes is.in_time;
      behind_take = subst (λ ts. list_all (λ o. list_all (λ t. nat_lt t (position_of o)) ts) p.outcomes ≡ true) (sym takes_same) is.behind_take;
      before_other_work = befores p.outcomes is.in_time is.before_other_work;
    }

  -- of each of these requests
  abbrev pub StaysFor : ℕ → Type 0
  StaysFor request = IsDone setting (past_of journal) request × (list_all (spares request) es ≡ true)

  pub are_performed_longer : (ps : List Performance) (requests_ : List ℕ) → map (λ p. p.request) ps ≡ requests_ → AllByRecursion StaysFor requests_ →
      ArePerformed setting journal 1 orders last ps → ArePerformed setting (journal ++ es) 1 orders later ps
  are_performed_longer [] rs same stay are = tt
  are_performed_longer (p ∷ ps) [] same stay are = absurd (cc same)
  are_performed_longer (p ∷ ps) (r ∷ rs) same stay are =
      let here : r ≡ p.request = cc in
      let rest : map (λ q. q.request) ps ≡ rs = cc in
      let now = subst StaysFor here stay.0 in
      (performed_longer p now.0 now.1 are.0, are_performed_longer ps rs rest stay.1 are.1)

-- ---- entries on nobody's command, which take nothing

-- the seat made the entry on nobody's command, and took nothing with it
abbrev pub is_plain : Entry → Bool
is_plain entry = (entry.seat == 0) && (entry.by == 0) && not (is_some (taken_by entry.what))

-- such an entry spares each request but 0
plain_spares : (request : ℕ) → request ≢ 0 → (e : Entry) → is_plain e ≡ true → spares request e ≡ true
plain_spares request some e plain =
    let one = and_parts ((e.seat == 0) && (e.by == 0)) (not (is_some (taken_by e.what))) plain in
    let two = and_parts (e.seat == 0) (e.by == 0) one.0 in
    and_from (not (e.by == request)) (not (takes_it request e))
    (apart_by e.by request (λ same. some (sym same ∙ eqb-true e.by 0 two.1)))
    (untaken (taken_by e.what) request one.1)

none_taken : (found : Option ℕ) → not (is_some found) ≡ true → found ≡ None
none_taken None fails = refl
none_taken (Some n) fails = absurd (cc fails)

-- so they take nothing
pub plain_taken : (past : Past) (es : List Entry) → list_all is_plain es ≡ true → taken (followed_by past es) ≡ taken past
plain_taken past [] plain = refl
plain_taken past (e ∷ es) plain =
    let now = first_passes is_plain e es plain in
    let none : taken_by e.what ≡ None = none_taken (taken_by e.what) (and_parts ((e.seat == 0) && (e.by == 0)) (not (is_some (taken_by e.what))) now.0).1 in
    plain_taken (e.what ∷ past) es now.1 ∙ taken_kept (taken_by e.what) none
  where
    taken_kept : (found : Option ℕ) → found ≡ None → taken past ++ option_to_list found ≡ taken past
    taken_kept None is = append-nil (taken past)
    taken_kept (Some n) is = absurd (cc is)

pub obeyed_more : (setting : Setting) (journal es : List Entry) (orders : Orders) (last later total : ℕ) → last ≤ length journal → last ≤ later →
    AllByRecursion (IsDone setting (past_of journal)) (taken (past_of journal)) → list_all is_plain es ≡ true →
    ObeysOrders setting journal 1 orders last total → ObeysOrders setting (journal ++ es) 1 orders later total
obeyed_more setting journal es orders last later total within le done plain obeys =
    let same : taken (past_of (journal ++ es)) ≡ taken (past_of journal) = ap taken (past_on journal es) ∙ plain_taken (past_of journal) es plain in
    record {
      performances = obeys.performances;
      requests_are = obeys.requests_are ∙ sym same;
      performed = are_performed_longer setting journal es orders last later within le obeys.performances (taken (past_of journal)) obeys.requests_are
          (each_follows (IsDone setting (past_of journal)) (λ request. IsDone setting (past_of journal) request × (list_all (spares request) es ≡ true))
          (λ request d. (d, all_pass is_plain (spares request) (plain_spares request d.numbered) es plain)) (taken (past_of journal)) done)
          obeys.performed;
      givers = subst (λ ns. list_all (λ e. (e.by == 0) || is_one_of ns e.by) (journal ++ es) ≡ true) (sym same)
          (list_all-append (λ e. (e.by == 0) || is_one_of (taken (past_of journal)) e.by) journal es
          ∙ and_from (list_all (λ e. (e.by == 0) || is_one_of (taken (past_of journal)) e.by) journal) (list_all (λ e. (e.by == 0) || is_one_of (taken (past_of journal)) e.by) es) obeys.givers
          (all_pass is_plain (λ e. (e.by == 0) || is_one_of (taken (past_of journal)) e.by)
          (λ e h. or_left (e.by == 0) (is_one_of (taken (past_of journal)) e.by)
          (and_parts (e.seat == 0) (e.by == 0) (and_parts ((e.seat == 0) && (e.by == 0)) (not (is_some (taken_by e.what))) h).0).1) es plain));
      lost_are = obeys.lost_are;
    }
