-- What is kept of a channel: behind entries on nobody's command that take nothing, and behind a delivery.
use Rattle.std.proofs.Common.{◌≡◌, ◌≢◌, ◌∙◌, ℕ, ◌+◌, ◌-◌, ◌^◌, ◌==◌, ◌&&◌, true, false, not, min, List, [], ◌∷◌, ◌++◌, Some, length, map, refl, sym, ap, subst, arith, eq-eqb, ne_eqb}
use Rattle.std.proofs.lemmas.Bool.{and_from, and_parts}
use Rattle.std.proofs.lemmas.List.{length-append, map-append}
use Rattle.std.proofs.lemmas.List.Folds.{list_all-append}
use Rattle.std.specs.List.{AllByRecursion, list_all}
use Rattle.std.specs.Prelude.{count_by, is_some}
use Rattle.chan_types.specs.Gives.{gives}
use Rattle.chan_types.specs.Plans.{Plan}
use Rattle.chan_types.specs.declared.answer.Answer.{Answer}
use Rattle.chan_types.specs.declared.journal.Entry.{Entry}
use Rattle.chan_types.specs.declared.journal.What.{What}
use Rattle.chan_types.specs.declared.orders.Orders.{Orders}
use Rattle.channel_model.specs.Commands.{AllBecame, Outcome, is_lost, positions_from, positions_left}
use Rattle.channel_model.specs.Completion.{fate, occurrences, taken, taken_by}
use Rattle.channel_model.specs.Journal.{is_destroy, past_of, script_of}
use Rattle.channel_model.specs.Lawful.{IsLawful}
use Rattle.channel_model.specs.Setting.{Setting}
use Rattle.owner_session.specs.Kinds.{is_cancel, is_of_session, is_ruled}
use Rattle.ticket_delivery.proofs.Theorems.{IsCommanded, fate_behind}
use Rattle.owner_session.specs.Session.{HasObeyed}
use Rattle.seat_laws.proofs.ListLemmas.{each_passes}
use Rattle.owner_session.proofs.DeliveryLemmas.{commanded_taken, obeyed_one, take_entry}
use Rattle.owner_session.proofs.ListLemmas.{all_pass, each_of}
use Rattle.owner_session.proofs.ObeyLemmas.{IsDone, done_of, is_plain, obeyed_more, past_on, plain_taken}
use Rattle.owner_session.proofs.SilentLemmas.{entries_none, gives_none, outcomes_none, script_silent, silent_front}

-- what a request's callback commanded is a session's
pub commanded_of_session : (request : ℕ) → request ≢ 0 → (e : Entry) → IsCommanded request e → is_of_session e ≡ true
commanded_of_session request some e c =
    let other : (e.by == 0) ≡ false = ne_eqb e.by 0 (λ zero_. some (sym c.1 ∙ zero_)) in
    and_from (is_ruled e) (not ((e.by == 0) && is_destroy e.what))
    (and_from (e.seat == 0) (not ((e.by == 0) && is_cancel e.what)) (eq-eqb e.seat 0 c.0) (ap (λ b. not (b && is_cancel e.what)) other))
    (ap (λ b. not (b && is_destroy e.what)) other)

-- a plain entry is on nobody's command
plain_uncommanded : (e : Entry) → is_plain e ≡ true → (e.by == 0) ≡ true
plain_uncommanded e plain = (and_parts (e.seat == 0) (e.by == 0) (and_parts ((e.seat == 0) && (e.by == 0)) (not (is_some (taken_by e.what))) plain).0).1

-- fates stay behind further entries
pub fates_on : (setting : Setting) (journal es : List Entry) (calls : List Answer) → AllByRecursion (λ answer. fate setting answer.number (past_of journal) ≡ Some answer) calls →
    AllByRecursion (λ answer. fate setting answer.number (past_of (journal ++ es)) ≡ Some answer) calls
fates_on setting journal es [] fates = tt
fates_on setting journal es (a ∷ calls) fates =
    (ap (fate setting a.number) (past_on journal es) ∙ fate_behind setting a.number (past_of journal) es a fates.0, fates_on setting journal es calls fates.1)

-- each request whose callback was called is done
dones_called : (setting : Setting) (journal : List Entry) → IsLawful setting journal → (calls : List Answer) → AllByRecursion (λ answer. fate setting answer.number (past_of journal) ≡ Some answer) calls →
    AllByRecursion (IsDone setting (past_of journal)) (map (λ (answer : Answer). answer.number) calls)
dones_called setting journal lawful [] fates = tt
dones_called setting journal lawful (a ∷ calls) fates = (done_of setting (past_of journal) lawful.allowed a.number a fates.0, dones_called setting journal lawful calls fates.1)

module _ (setting : Setting) (journal : List Entry) (orders : Orders) (calls : List Answer) (count : ℕ) (k : HasObeyed setting journal orders calls count) where
  -- each request that was taken is done
  pub dones : AllByRecursion (IsDone setting (past_of journal)) (taken (past_of journal))
  dones = subst (AllByRecursion (IsDone setting (past_of journal))) k.called (dones_called setting journal k.lawful calls k.fates)

  -- entries on nobody's command that take nothing
  pub kept_more : (es : List Entry) → IsLawful setting (journal ++ es) → list_all is_plain es ≡ true → list_all is_ruled es ≡ true → HasObeyed setting (journal ++ es) orders calls count
  kept_more es lawful plain ruled = record {
    lawful = lawful;
    ruled = list_all-append is_ruled journal es ∙ and_from (list_all is_ruled journal) (list_all is_ruled es) k.ruled ruled;
    total = k.total;
    total_is = k.total_is;
    obeyed = obeyed_more setting journal es orders (length journal) (length (journal ++ es)) k.total (omega arith) (omega (arith, length-append journal es)) dones plain k.obeyed;
    called = k.called ∙ sym (ap taken (past_on journal es) ∙ plain_taken (past_of journal) es plain);
    fates = fates_on setting journal es calls k.fates;
    silent = λ commands.
        let before = k.silent (silent_front journal es commands) in (
          list_all-append (λ e. e.by == 0) journal es
              ∙ and_from (list_all (λ e. e.by == 0) journal) (list_all (λ e. e.by == 0) es) before.0 (all_pass is_plain (λ e. e.by == 0) plain_uncommanded es plain),
          before.1,
        );
  }

  -- a request that was taken, told its answer, and whose callback's commands were performed
  pub kept_one : (since : List Entry) (answer : Answer) (script : Plan) (outcomes : List Outcome) (count_new : ℕ) → IsLawful setting (journal ++ take_entry answer.number ∷ since) →
      fate setting answer.number (past_of journal) ≡ Some answer → script_of answer.number (past_of journal) ≡ Some script → occurrences answer.number (taken (past_of journal)) ≡ 0 →
      AllByRecursion (IsCommanded answer.number) since → AllBecame setting (journal ++ take_entry answer.number ∷ since) (length journal + 1) (gives script answer orders) outcomes →
      positions_from (λ entry. true) (length journal + 1) since ≡ positions_left outcomes → min count_new (2 ^ 64 - 1) ≡ min (count + count_by is_lost outcomes) (2 ^ 64 - 1) →
      HasObeyed setting (journal ++ take_entry answer.number ∷ since) orders (calls ++ answer ∷ []) count_new
  kept_one since answer script outcomes count_new lawful fated scripted untaken commanded became entries_are count_is =
      let request : ℕ = answer.number in
      let found = done_of setting (past_of journal) k.lawful.allowed request answer fated in
      let done : IsDone setting (past_of journal) request = record { answer = answer; fated = fated; script = script; scripted = scripted; numbered = found.numbered } in
      let seats : list_all (λ e. e.seat == 0) journal ≡ true =
      all_pass is_ruled (λ e. e.seat == 0) (λ e h. (and_parts (e.seat == 0) (not ((e.by == 0) && is_cancel e.what)) h).0) journal k.ruled in
      record {
        lawful = lawful;
        ruled = list_all-append is_ruled journal (take_entry request ∷ since)
            ∙ and_from (list_all is_ruled journal) (list_all is_ruled since) k.ruled
            (each_passes (IsCommanded request) is_ruled (λ e c. (and_parts (is_ruled e) (not ((e.by == 0) && is_destroy e.what)) (commanded_of_session request found.numbered e c)).0) since commanded);
        total = k.total + count_by is_lost outcomes;
        total_is = capped count k.total (count_by is_lost outcomes) count_new (2 ^ 64 - 1) k.total_is count_is;
        obeyed = obeyed_one setting journal since orders request answer script outcomes done refl refl untaken dones seats commanded became entries_are k.total k.obeyed;
        called = map-append (λ (a : Answer). a.number) calls (answer ∷ []) ∙ ap (λ ns. ns ++ request ∷ []) k.called
            ∙ sym (ap taken (past_on journal (take_entry request ∷ since)) ∙ commanded_taken request (What.Take request ∷ past_of journal) since commanded);
        fates = each_of (λ a. fate setting a.number (past_of (journal ++ take_entry request ∷ since)) ≡ Some a) calls (answer ∷ [])
            (fates_on setting journal (take_entry request ∷ since) calls k.fates)
            (ap (fate setting request) (past_on journal (take_entry request ∷ since)) ∙ fate_behind setting request (past_of journal) (take_entry request ∷ since) answer fated, tt);
        silent = λ commands.
            let asked = silent_front journal (take_entry request ∷ since) commands in
            let before = k.silent asked in
            let none : gives script answer orders ≡ [] = gives_none script answer orders (script_silent journal request script before.0 asked scripted) in
            let nothing : outcomes ≡ [] = outcomes_none setting (journal ++ take_entry request ∷ since) (length journal + 1) outcomes
            (subst (λ cs. AllBecame setting (journal ++ take_entry request ∷ since) (length journal + 1) cs outcomes) none became) in
            let empty : since ≡ [] = entries_none (length journal + 1) since (entries_are ∙ ap positions_left nothing) in
            let unlost : count_by is_lost outcomes ≡ 0 = ap (λ os. count_by is_lost os) nothing in (
              list_all-append (λ e. e.by == 0) journal (take_entry request ∷ since)
                  ∙ and_from (list_all (λ e. e.by == 0) journal) (list_all (λ e. e.by == 0) since) before.0 (ap (list_all (λ e. e.by == 0)) empty),
              omega (arith, before.1, unlost),
            );
      }
    where
      -- a count that stops at a limit
      capped : (c t more new limit : ℕ) → min c limit ≡ min t limit → min new limit ≡ min (c + more) limit → min new limit ≡ min (t + more) limit
      capped c t more new limit a b = omega (arith, a, b)
