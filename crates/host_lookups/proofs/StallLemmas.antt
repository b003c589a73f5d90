-- Where one request has no answer: a wait failed, or all turns were made.
use Rattle.std.proofs.Common.{Bool, ap, arith, false, refl, subst, sym, true, ◌∙◌}
use Rattle.std.proofs.lemmas.List.{append-nil, append_assoc}
use Rattle.std.specs.List.{list_all}
use Rattle.std.specs.Prelude.{IsTrue, List, None, Ok, Option, Some, [], cond, filter, is_none, is_some, map, option_to_list, ℕ, ◌+◌, ◌++◌, ◌∷◌, ◌≡◌, ◌≢◌, ◌≤◌}
use Rattle.chan_types.specs.Plans.{Plan}
use Rattle.chan_types.specs.declared.answer.Answer.{Answer}
use Rattle.chan_types.specs.declared.journal.Entry.{Entry}
use Rattle.chan_types.specs.declared.spec.Spec.{Spec}
use Rattle.channel_model.proofs.Theorems.{call_goes_on, completes_once, taken_then_ready}
use Rattle.channel_model.specs.Completion.{completions, fate, is_open, occurrences, pending, ready, requests, taken}
use Rattle.channel_model.specs.Course.{has_no_turn}
use Rattle.channel_model.specs.Journal.{Accepted, Past, accepted, accepted_by, followed_by, own_entries, past_of}
use Rattle.channel_model.specs.Known.{Calls}
use Rattle.channel_model.specs.Lawful.{IsLawful}
use Rattle.channel_model.specs.Meanings.{Meaning}
use Rattle.channel_model.specs.Setting.{Setting}
use Rattle.channel_session.proofs.Theorems.{alone_since, stands_between, undisturbed}
use Rattle.channel_session.specs.Advancing.{is_of_session}
use Rattle.channel_session.specs.Progressing.{IsCome}
use Rattle.channel_session.specs.Sitting.{IsCount, Sitting, StandsBehind, longest_pause, moment_of, reach_of}
use Rattle.channel_session.specs.declared.progress.Progress.TheVariants.{Disturbed, Over, Stalled}
use Rattle.channel_table.specs.Calling.{Owned, known_by_owner}
use Rattle.event_runner.specs.UnderWay.{RunsSince, turned}
use Rattle.net_world.specs.declared.log.WorldCall.{WorldCall}
use Rattle.host_lookups.specs.Answered.{IsStalled, first_asked}
use Rattle.host_lookups.proofs.ExtendLemmas.{came_took}

-- a session that made turns stands right behind one
pub reach_turned : (behind : Bool) (turns : ℕ) → 1 ≤ turns → IsCount behind turns → reach_of behind ≡ turned
reach_turned true turns some count = refl
reach_turned false turns some none = absurd (omega (arith, some, none))

-- what was accepted stays so
accepted_front : (past : Past) (es : List Entry) → (more : List Accepted) × (accepted (followed_by past es) ≡ accepted past ++ more)
accepted_front past [] = ([], sym (append-nil (accepted past)))
accepted_front past (e ∷ es) =
    let rest = accepted_front (e.what ∷ past) es in
    (option_to_list (accepted_by e.what) ++ rest.0, rest.1 ∙ append_assoc (accepted past) (option_to_list (accepted_by e.what)) rest.0)

-- a request that hasn't completed is pending
open_pending : (past : Past) (setting : Setting) (more : List ℕ) → requests past ≡ 1 ∷ more → is_some (fate setting 1 past) ≡ false → pending setting past ≢ []
open_pending past setting more are none = λ empty. absurd (cc (sym empty ∙ ap (filter (is_open setting past)) are ∙ by (fate setting 1 past) none))
  where
    by : (found : Option Answer) → is_some found ≡ false → cond (is_none found) (1 ∷ filter (is_open setting past) more) (filter (is_open setting past) more) ≡ 1 ∷ filter (is_open setting past) more
    by None none = refl
    by (Some answer) none = absurd (cc none)

not_completed : (found : Option Answer) (none : ℕ) → none ≡ 0 → none ≡ cond (is_some found) 1 0 → is_some found ≡ false
not_completed None none zero is = refl
not_completed (Some answer) none zero is = absurd (omega (arith, zero, is))

-- a channel whose one request wasn't taken isn't over
unfinished : (setting : Setting) (spec : Spec) (since : List Entry) → IsLawful setting (first_asked spec ∷ since) → taken (past_of (first_asked spec ∷ since)) ≡ [] →
    pending setting (past_of (first_asked spec ∷ since)) ≡ [] → ready setting (past_of (first_asked spec ∷ since)) ≡ [] → ⊥
unfinished setting spec since lawful none_taken none_pending none_ready =
    let past : Past = past_of (first_asked spec ∷ since) in
    let none : completions setting past ≡ [] = taken_then_ready setting past lawful.allowed ∙ ap (λ xs. xs ++ ready setting past) none_taken ∙ none_ready in
    let uncompleted : is_some (fate setting 1 past) ≡ false = not_completed (fate setting 1 past) (occurrences 1 (completions setting past)) (ap (occurrences 1) none) (completes_once setting 1 past lawful.allowed) in
    let front = accepted_front ((first_asked spec).what ∷ []) since in
    open_pending past setting (map (λ request. request.number) front.0) (ap (map (λ request. request.number)) front.1) uncompleted none_pending

module _ {T : Type 0} (plan : T → Plan) (name : T → ℕ) (spec : Spec) (most f g : ℕ) (a b : Owned) (s t : Sitting) (l m : Option (List WorldCall)) (asked : a.seen ≡ first_asked spec ∷ []) (lawful : IsLawful a.setting a.seen) where
  -- so a session doesn't come to its end before the first answer
  pub not_over : IsCome plan name most f g Over (moment_of (known_by_owner a) s l) (moment_of (known_by_owner b) t m) → ⊥
  not_over come =
      let goes = come.0.2.goes_on in
      let seen : b.seen ≡ first_asked spec ∷ goes.since = goes.seen ∙ ap (λ journal. journal ++ goes.since) asked in
      unfinished b.setting spec goes.since (subst (λ journal. IsLawful b.setting journal) seen (goes.lawful lawful))
      (ap (λ journal. taken (past_of journal)) (sym seen) ∙ came_took plan name most f g (Ok Over) a b s t l m come ∙ append-nil (taken (past_of a.seen)) ∙ ap (λ journal. taken (past_of journal)) asked)
      (ap (λ journal. pending b.setting (past_of journal)) (sym seen) ∙ come.1.0)
      (ap (λ journal. ready b.setting (past_of journal)) (sym seen) ∙ come.1.1)

  -- and nobody disturbs it
  pub not_disturbed : IsCome plan name most f g Disturbed (moment_of (known_by_owner a) s l) (moment_of (known_by_owner b) t m) → ⊥
  not_disturbed come = undisturbed (known_by_owner a) (known_by_owner b) refl refl come.1

  -- where all turns were made it has stalled
  pub has_stalled : (setting : Setting) (began : Option (List WorldCall)) → a.setting ≡ setting → 1 ≤ most → StandsBehind 0 0 began (moment_of (known_by_owner a) s l) →
      IsCome plan name most f g Stalled (moment_of (known_by_owner a) s l) (moment_of (known_by_owner b) t m) → IsStalled setting spec most began m
  has_stalled setting began same some here come =
      let goes = come.0.goes_on in
      let seen : b.seen ≡ first_asked spec ∷ goes.since = goes.seen ∙ ap (λ journal. journal ++ goes.since) asked in
      let all : 0 + most ≡ most = omega arith in
      let behind : StandsBehind most 0 began (moment_of (known_by_owner b) t m) = subst (λ n. StandsBehind n 0 began (moment_of (known_by_owner b) t m)) all (come.0.stands began 0 0 here) in
      record {
        channel = b;
        since = goes.since;
        set = goes.desk.setting ∙ same;
        journal = seen;
        of_session = subst (λ es. IsTrue (list_all is_of_session es)) (alone_since (known_by_owner a) (known_by_owner b) refl refl goes) come.0.own;
        lawful = subst (λ at. IsLawful at b.seen) (goes.desk.setting ∙ same) (goes.lawful lawful);
        left = come.1.some;
        running = t.running;
        ran = subst (λ reach. RunsSince longest_pause most 0 reach (known_by_owner b) t.running began m) (reach_turned t.behind_turn most some behind.count) behind.runs;
      }

-- a run of a session that made no turn stands where the one request was asked
pub stands_asked : (meaning : Meaning) (by : ℕ) (spec : Spec) (a b : Owned) (s : Sitting) (l began : Option (List WorldCall)) → a.seen ≡ [] → b.seen ≡ first_asked spec ∷ [] →
    Calls meaning by (known_by_owner a) (known_by_owner b) → StandsBehind 0 0 began (moment_of (known_by_owner a) s l) → StandsBehind 0 0 began (moment_of (known_by_owner b) s l)
stands_asked meaning by spec a b s l began empty asked call here =
    let goes = call_goes_on meaning by (known_by_owner a) (known_by_owner b) call in
    let one : goes.since ≡ first_asked spec ∷ [] = ap (λ es. es ++ goes.since) (sym empty) ∙ sym goes.seen ∙ asked in
    stands_between (known_by_owner a) (known_by_owner b) goes (ap (λ es. has_no_turn (own_entries 0 es)) one) s l began 0 0 here
