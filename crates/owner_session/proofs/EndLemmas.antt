-- How a session comes to its end, and what that says of the network's calls.
use Rattle.std.proofs.Common.{◌≡◌, ◌≢◌, ◌∙◌, ℕ, suc, zero, ◌≤◌, true, false, List, [], ◌++◌, length, refl, sym, ap, subst, inl, inr, ⊎_elim, arith}
use Rattle.std.specs.Prelude.{Err, Ok, Option, Result, ◌⊎◌}
use Rattle.std.specs.List.{list_all}
use Rattle.std.proofs.lemmas.List.{append-nil}
use mathlib.Core.List.{IsPrefix}
use Rattle.chan_types.specs.declared.answer.Answer.{Answer}
use Rattle.chan_types.specs.declared.journal.Entry.{Entry}
use Rattle.item_list.specs.declared.no_memory.NoMemory.{NoMemory}
use Rattle.net_addr.specs.declared.addr.ServerAddr.{ServerAddr}
use Rattle.net_world.specs.declared.log.WorldCall.{WorldCall}
use Rattle.channel_model.specs.Commands.{Asking, closing_position}
use Rattle.channel_model.specs.Course.{IsCourse, IsCourseSoFar, has_no_turn}
use Rattle.channel_model.specs.Endings.{IsStalledBehind}
use Rattle.channel_model.specs.Lawful.{IsLawful}
use Rattle.channel_model.specs.Setting.{Setting}
use Rattle.channel_model.proofs.Theorems.{course_agrees, so_far_nearly, so_far_reads}
use Rattle.channel_progress.specs.PlainRun.{IsPlainRun}
use Rattle.channel_progress.specs.Prompted.{unprompted_in}
use Rattle.channel_progress.specs.Waking.{NoWaitFailed}
use Rattle.channel_progress.proofs.Theorems.{not_failed}
use Rattle.channel_table.specs.Calling.{Owned}
use Rattle.event_runner.proofs.Theorems.{course_then, so_far_then}
use Rattle.tool_line.specs.declared.ending.Exit.{Exit}
use Rattle.tool_line.specs.declared.ending.Exit.TheVariants.{Failure, OutOfMemory, Stalled as HasStalled, Success, WaitFault as FailedWait}
use Rattle.owner_session.specs.Ends.{IsEndOf}
use Rattle.owner_session.specs.Kinds.{has_servers, is_ruled, is_servers}
use Rattle.owner_session.specs.Promise.{IsGivenTime, IsTraffic, last_at}
use Rattle.owner_session.specs.Session.{FallsIntoTurns, HasAccepted, SetsBehindFirst, SetsSoFar, ShowsEnd}
use Rattle.owner_laws.specs.Sessions.{BeginsPending, BeginsSoFar, EndsWithFailedWait, longest_slice}
use Rattle.run_end.specs.declared.loop_end.LoopEnd.{LoopEnd}
use Rattle.run_end.specs.declared.loop_end.LoopEnd.TheVariants.{Completed, Stalled, WaitFault}
use Rattle.owner_laws.proofs.Begun.{begins_behind, so_far_behind}
use Rattle.owner_session.proofs.ListLemmas.{any_of}
use Rattle.owner_session.proofs.MoveLemmas.{ruled_seats}
use Rattle.owner_session.proofs.ProgressLemmas.{stalled_few}
use Rattle.owner_session.proofs.ThenLemmas.{behind_more}
use Rattle.owner_laws.proofs.Waits.{last_failed}
use Rattle.run_end.specs.Ends.{AreGood, IsPageEnd, IsRunEnd}

-- ---- ends

-- each end is one of a run
pub end_known : (result : Result LoopEnd NoMemory) (lost : ℕ) (calls : List Answer) (end : Exit) → IsEndOf result lost calls end → IsRunEnd end
end_known result (suc lost) calls end is = inr (inr (inr is))
end_known (Ok Completed) zero calls end (inl good) = inl (inl good.0)
end_known (Ok Completed) zero calls end (inr bad) = inl (inr bad.0)
end_known (Ok WaitFault) zero calls end is = inr (inl is)
end_known (Ok Stalled) zero calls end is = inr (inr (inl is))
end_known (Err e) zero calls end is = inr (inr (inr is))

-- an end that isn't for want of memory comes of turns that weren't cut short, and of no loss
pub unlost : (result : Result LoopEnd NoMemory) (lost : ℕ) (calls : List Answer) (end : Exit) → IsEndOf result lost calls end → end ≢ OutOfMemory → lost ≡ 0
unlost result (suc lost) calls end is served = absurd (served is)
unlost result zero calls end is served = refl

-- how the turns ended, by the end: well or otherwise, by a wait that failed, with turns that were used up, or memory was wanting
abbrev pub Came : Result LoopEnd NoMemory → List Answer → Exit → Type 0
Came result calls end =
    ((result ≡ Ok Completed) × (end ≡ Success) × AreGood calls) ⊎ ((result ≡ Ok Completed) × (end ≡ Failure) × ¬ AreGood calls)
    ⊎ ((result ≡ Ok WaitFault) × (end ≡ FailedWait)) ⊎ ((result ≡ Ok Stalled) × (end ≡ HasStalled)) ⊎ (end ≡ OutOfMemory)

pub came : (result : Result LoopEnd NoMemory) (lost : ℕ) (calls : List Answer) (end : Exit) → IsEndOf result lost calls end → Came result calls end
came result (suc lost) calls end is = inr (inr (inr (inr is)))
came (Ok Completed) zero calls end (inl is) = inl (refl, is.0, is.1)
came (Ok Completed) zero calls end (inr is) = inr (inl (refl, is.0, is.1))
came (Ok WaitFault) zero calls end is = inr (inr (inl (refl, is)))
came (Ok Stalled) zero calls end is = inr (inr (inr (inl (refl, is))))
came (Err e) zero calls end is = inr (inr (inr (inr is)))

module _ (result : Result LoopEnd NoMemory) (calls : List Answer) (end : Exit) where
  pub good_of : Came result calls end → end ≡ Success → AreGood calls
  good_of (inl w) h = w.2
  good_of (inr (inl w)) h = absurd (let c : Failure ≡ Success = sym w.1 ∙ h in cc)
  good_of (inr (inr (inl w))) h = absurd (let c : FailedWait ≡ Success = sym w.1 ∙ h in cc)
  good_of (inr (inr (inr (inl w)))) h = absurd (let c : HasStalled ≡ Success = sym w.1 ∙ h in cc)
  good_of (inr (inr (inr (inr w)))) h = absurd (let c : OutOfMemory ≡ Success = sym w ∙ h in cc)

  pub bad_of : Came result calls end → end ≡ Failure → ¬ AreGood calls
  bad_of (inl w) h = absurd (let c : Success ≡ Failure = sym w.1 ∙ h in cc)
  bad_of (inr (inl w)) h = w.2
  bad_of (inr (inr (inl w))) h = absurd (let c : FailedWait ≡ Failure = sym w.1 ∙ h in cc)
  bad_of (inr (inr (inr (inl w)))) h = absurd (let c : HasStalled ≡ Failure = sym w.1 ∙ h in cc)
  bad_of (inr (inr (inr (inr w)))) h = absurd (let c : OutOfMemory ≡ Failure = sym w ∙ h in cc)

  pub wait_of : Came result calls end → end ≡ FailedWait → result ≡ Ok WaitFault
  wait_of (inl w) h = absurd (let c : Success ≡ FailedWait = sym w.1 ∙ h in cc)
  wait_of (inr (inl w)) h = absurd (let c : Failure ≡ FailedWait = sym w.1 ∙ h in cc)
  wait_of (inr (inr (inl w))) h = w.0
  wait_of (inr (inr (inr (inl w)))) h = absurd (let c : HasStalled ≡ FailedWait = sym w.1 ∙ h in cc)
  wait_of (inr (inr (inr (inr w)))) h = absurd (let c : OutOfMemory ≡ FailedWait = sym w ∙ h in cc)

  pub stall_of : Came result calls end → end ≡ HasStalled → result ≡ Ok Stalled
  stall_of (inl w) h = absurd (let c : Success ≡ HasStalled = sym w.1 ∙ h in cc)
  stall_of (inr (inl w)) h = absurd (let c : Failure ≡ HasStalled = sym w.1 ∙ h in cc)
  stall_of (inr (inr (inl w))) h = absurd (let c : FailedWait ≡ HasStalled = sym w.1 ∙ h in cc)
  stall_of (inr (inr (inr (inl w)))) h = w.0
  stall_of (inr (inr (inr (inr w)))) h = absurd (let c : OutOfMemory ≡ HasStalled = sym w ∙ h in cc)

  -- an end for another reason isn't a page's
  pub paged : Came result calls end → ((result ≡ Ok Completed) × IsPageEnd end) ⊎ (IsPageEnd end → ⊥)
  paged (inl w) = inl (w.0, inl w.1)
  paged (inr (inl w)) = inl (w.0, inr w.1)
  paged (inr (inr (inl w))) = inr other
    where
      other : IsPageEnd end → ⊥
      other (inl h) = absurd (let c : FailedWait ≡ Success = sym w.1 ∙ h in cc)
      other (inr h) = absurd (let c : FailedWait ≡ Failure = sym w.1 ∙ h in cc)
  paged (inr (inr (inr (inl w)))) = inr other
    where
      other : IsPageEnd end → ⊥
      other (inl h) = absurd (let c : HasStalled ≡ Success = sym w.1 ∙ h in cc)
      other (inr h) = absurd (let c : HasStalled ≡ Failure = sym w.1 ∙ h in cc)
  paged (inr (inr (inr (inr w)))) = inr other
    where
      other : IsPageEnd end → ⊥
      other (inl h) = absurd (let c : OutOfMemory ≡ Success = sym w ∙ h in cc)
      other (inr h) = absurd (let c : OutOfMemory ≡ Failure = sym w ∙ h in cc)

  pub page_of_end : Came result calls end → IsPageEnd end → result ≡ Ok Completed
  page_of_end c page = ⊎_elim (λ is. is.0) (λ other. absurd (other page)) (paged c)

  -- the last position of another end
  pub last_other : (journal : List Entry) → Came result calls end → (IsPageEnd end → ⊥) → last_at end journal ≡ length journal
  last_other journal (inl w) other = absurd (other (inl w.1))
  last_other journal (inr (inl w)) other = absurd (other (inr w.1))
  last_other journal (inr (inr (inl w))) other = ap (λ x. last_at x journal) w.1
  last_other journal (inr (inr (inr (inl w)))) other = ap (λ x. last_at x journal) w.1
  last_other journal (inr (inr (inr (inr w)))) other = ap (λ x. last_at x journal) w

-- where memory wasn't wanting, the turns weren't cut short
pub served_ok : (result : Result LoopEnd NoMemory) (lost : ℕ) (calls : List Answer) (end : Exit) → IsEndOf result lost calls end → end ≢ OutOfMemory → (e : LoopEnd) × (result ≡ Ok e)
served_ok (Ok e) lost calls end is served = (e, refl)
served_ok (Err fault) (suc lost) calls end is served = absurd (served is)
served_ok (Err fault) zero calls end is served = absurd (served is)

pub accepted_full : (result : Result LoopEnd NoMemory) (e : LoopEnd) (askings accepted_ : List Asking) → result ≡ Ok e → HasAccepted askings result accepted_ → accepted_ ≡ askings
accepted_full (Ok f) e askings accepted_ is has = has
accepted_full (Err fault) e askings accepted_ is has = absurd (cc is)

pub accepted_part : (result : Result LoopEnd NoMemory) (askings accepted_ : List Asking) → HasAccepted askings result accepted_ → IsPrefix accepted_ askings
accepted_part (Ok e) askings accepted_ has = ([], append-nil accepted_ ∙ has)
accepted_part (Err fault) askings accepted_ has = has

-- ---- the network's calls

module _ (setting : Setting) (later : Option (List ServerAddr)) (turns made : ℕ) (few : made ≤ turns) (es more : List Entry) (none : has_no_turn more ≡ true) (unset : has_servers more ≡ false) (calls : List WorldCall) where
  -- what was set stays so
  sets_stay : SetsBehindFirst setting later made es calls → SetsBehindFirst setting later made (es ++ more) calls
  sets_stay sets = subst (SetsBehindFirst setting later made (es ++ more)) (append-nil calls) (behind_more setting later made made es more calls [] (λ z. z) unset sets)

  -- a whole course, and entries behind it
  traffic_whole : (end : Exit) → IsCourse setting 0 longest_slice es calls made 0 → SetsBehindFirst setting later made es calls → (1 ≤ made → BeginsPending setting es calls) → (NoWaitFailed calls ⊎ EndsWithFailedWait calls) →
      (end ≡ FailedWait → EndsWithFailedWait calls) → (end ≢ FailedWait → end ≢ OutOfMemory → NoWaitFailed calls) → (end ≡ HasStalled → made ≡ turns) → IsTraffic setting later turns end (es ++ more) calls
  traffic_whole end course sets begins waits last_wait none_failed all_turns =
      let whole_course = course_then setting 0 longest_slice es more calls made 0 none course in
      record {
        made = made;
        few = few;
        readings = so_far_reads setting 0 longest_slice (es ++ more) calls made 0 (inl whole_course) ∙ omega arith;
        course = λ served. whole_course;
        sets_behind = inl (sets_stay sets);
        course_so_far = inl whole_course;
        begins = λ some. inl (begins_behind setting es more calls (begins some));
        agrees = λ served. course_agrees setting 0 longest_slice (es ++ more) calls made 0 whole_course;
        nearly_agrees = so_far_nearly setting 0 longest_slice (es ++ more) calls made 0 (inl whole_course);
        waits = waits;
        last_wait = last_wait;
        none_failed = none_failed;
        all_turns = all_turns;
      }

  -- one that was cut short, or where requests of callbacks were lost
  traffic_cut : (end : Exit) → end ≡ OutOfMemory → IsCourseSoFar setting 0 longest_slice es calls made 0 → SetsSoFar setting later made es calls → (1 ≤ made → BeginsSoFar setting es calls) → NoWaitFailed calls →
      IsTraffic setting later turns end (es ++ more) calls
  traffic_cut end is course sets begins none_failed =
      let so_far = so_far_then setting 0 longest_slice es more calls made 0 none course in
      record {
        made = made;
        few = few;
        readings = so_far_reads setting 0 longest_slice (es ++ more) calls made 0 so_far ∙ omega arith;
        course = λ served. absurd (served is);
        sets_behind = ⊎_elim (λ first. inl (sets_stay first)) (λ short. inr (is, short.0, any_of (λ e. is_servers e.what) es more short.1 unset)) sets;
        course_so_far = so_far;
        begins = λ some. ⊎_elim (λ whole. inl whole) (λ cut. inr (is, cut)) (so_far_behind setting es more calls none (begins some));
        agrees = λ served. absurd (served is);
        nearly_agrees = so_far_nearly setting 0 longest_slice (es ++ more) calls made 0 so_far;
        waits = inl none_failed;
        last_wait = λ wait. absurd (let e : FailedWait ≡ OutOfMemory = sym wait ∙ is in cc);
        none_failed = λ other served. none_failed;
        all_turns = λ stall. absurd (let e : HasStalled ≡ OutOfMemory = sym stall ∙ is in cc);
      }

-- turns that ended so, without want of memory
abbrev ok_of : LoopEnd → Result LoopEnd NoMemory
ok_of e = Ok e

-- how the turns ended shows in the calls
shown_wait : (turns made : ℕ) (channel : Owned) (calls : List WorldCall) (e : LoopEnd) → ok_of e ≡ ok_of WaitFault → ShowsEnd turns e channel made calls → EndsWithFailedWait calls
shown_wait turns made channel calls Completed is shows = absurd (cc is)
shown_wait turns made channel calls WaitFault is shows = shows
shown_wait turns made channel calls Stalled is shows = absurd (cc is)

shown_stall : (turns made : ℕ) (channel : Owned) (calls : List WorldCall) (e : LoopEnd) → ok_of e ≡ ok_of Stalled → ShowsEnd turns e channel made calls → made ≡ turns
shown_stall turns made channel calls Completed is shows = absurd (cc is)
shown_stall turns made channel calls WaitFault is shows = absurd (cc is)
shown_stall turns made channel calls Stalled is shows = shows.0

shown_waits : (turns made : ℕ) (channel : Owned) (calls : List WorldCall) (e : LoopEnd) → ShowsEnd turns e channel made calls → NoWaitFailed calls ⊎ EndsWithFailedWait calls
shown_waits turns made channel calls Completed shows = inl shows
shown_waits turns made channel calls WaitFault shows = inr shows
shown_waits turns made channel calls Stalled shows = inl shows.3

shown_none : (turns made : ℕ) (channel : Owned) (calls : List WorldCall) (answers : List Answer) (end : Exit) (e : LoopEnd) → Came (Ok e) answers end → end ≢ FailedWait → end ≢ OutOfMemory → ShowsEnd turns e channel made calls → NoWaitFailed calls
shown_none turns made channel calls answers end Completed is other served shows = shows
shown_none turns made channel calls answers end Stalled is other served shows = shows.3
shown_none turns made channel calls answers end WaitFault (inl w) other served shows = absurd (cc w.0)
shown_none turns made channel calls answers end WaitFault (inr (inl w)) other served shows = absurd (cc w.0)
shown_none turns made channel calls answers end WaitFault (inr (inr (inl w))) other served shows = absurd (other w.1)
shown_none turns made channel calls answers end WaitFault (inr (inr (inr (inl w)))) other served shows = absurd (cc w.0)
shown_none turns made channel calls answers end WaitFault (inr (inr (inr (inr w)))) other served shows = absurd (served w)

-- the calls of a session, with what stands behind it
pub traffic_of : (setting : Setting) (later : Option (List ServerAddr)) (turns : ℕ) (result : Result LoopEnd NoMemory) (answers : List Answer) (end : Exit) (mid : Owned) (more : List Entry) → mid.setting ≡ setting →
    has_no_turn more ≡ true → has_servers more ≡ false → Came result answers end → (calls : List WorldCall) → FallsIntoTurns later turns result mid calls → IsTraffic setting later turns end (mid.seen ++ more) calls
traffic_of setting later turns (Ok e) answers end mid more same none unset is calls falls =
    traffic_whole setting later turns falls.0 falls.1 mid.seen more none unset calls end
    (subst (λ s. IsCourse s 0 longest_slice mid.seen calls falls.0 0) same falls.2)
    (subst (λ s. SetsBehindFirst s later falls.0 mid.seen calls) same falls.3)
    (λ some. subst (λ s. BeginsPending s mid.seen calls) same (falls.4 some))
    (shown_waits turns falls.0 mid calls e falls.5)
    (λ wait. shown_wait turns falls.0 mid calls e (wait_of (Ok e) answers end is wait) falls.5)
    (λ other served. shown_none turns falls.0 mid calls answers end e is other served falls.5)
    (λ stall. shown_stall turns falls.0 mid calls e (stall_of (Ok e) answers end is stall) falls.5)
traffic_of setting later turns (Err e) answers end mid more same none unset is calls falls =
    traffic_cut setting later turns falls.0 falls.1 mid.seen more none unset calls end (err_wanting is)
    (subst (λ s. IsCourseSoFar s 0 longest_slice mid.seen calls falls.0 0) same falls.2)
    (subst (λ s. SetsSoFar s later falls.0 mid.seen calls) same falls.3)
    (λ some. subst (λ s. BeginsSoFar s mid.seen calls) same (falls.4 some)) falls.5
  where
    err_wanting : Came (Err e) answers end → end ≡ OutOfMemory
    err_wanting (inl w) = absurd (cc w.0)
    err_wanting (inr (inl w)) = absurd (cc w.0)
    err_wanting (inr (inr (inl w))) = absurd (cc w.0)
    err_wanting (inr (inr (inr (inl w)))) = absurd (cc w.0)
    err_wanting (inr (inr (inr (inr w)))) = w

-- where no request of a callback was lost, a wait failed only where the session ended for it
pub unfailed : (later : Option (List ServerAddr)) (turns : ℕ) (result : Result LoopEnd NoMemory) (answers : List Answer) (end : Exit) (mid : Owned) (calls : List WorldCall) →
    IsEndOf result 0 answers end → end ≢ FailedWait → FallsIntoTurns later turns result mid calls → NoWaitFailed calls
unfailed later turns (Ok Completed) answers end mid calls is other falls = falls.5
unfailed later turns (Ok WaitFault) answers end mid calls is other falls = absurd (other is)
unfailed later turns (Ok Stalled) answers end mid calls is other falls = falls.5.3
unfailed later turns (Err e) answers end mid calls is other falls = falls.5

-- ---- completeness

-- a run that was given time comes to its page's end, or wants memory
module _ (setting : Setting) (later : Option (List ServerAddr)) (turns : ℕ) (result : Result LoopEnd NoMemory) (answers : List Answer) (end : Exit) (mid : Owned) (more : List Entry) (same : mid.setting ≡ setting)
    (servers : 1 ≤ length setting.options.servers) (tries : 1 ≤ setting.options.tries) (lawful : IsLawful setting mid.seen) (ruled : list_all is_ruled mid.seen ≡ true)
    (calls : List WorldCall) (falls : FallsIntoTurns later turns result mid calls) (time : IsGivenTime setting turns (mid.seen ++ more) calls) where
  plain : IsPlainRun setting 0 mid.seen calls
  plain = record {
    lawful = lawful;
    alone = ruled_seats mid.seen ruled;
    some_server = servers;
    some_try = tries;
    waited = time.waited;
    wakes = time.wakes;
  }

  -- its turns aren't used up
  not_stalled : (stalled : IsStalledBehind mid.setting 0 longest_slice turns mid.seen calls) → unprompted_in mid.setting stalled.course.rounds ≡ 0 → ⊥
  not_stalled stalled none =
      let stalls = subst (λ s. (stalls : IsStalledBehind s 0 longest_slice turns mid.seen calls) × (unprompted_in s stalls.course.rounds ≡ 0)) same (stalled, none) in
      omega (arith, stalled_few setting turns mid.seen more calls plain stalls.0 stalls.1, time.enough)

  pub comes_to_end : Came result answers end → IsPageEnd end ⊎ (end ≡ OutOfMemory)
  comes_to_end (inl w) = inl (inl w.1)
  comes_to_end (inr (inl w)) = inl (inr w.1)
  comes_to_end (inr (inr (inl w))) = let ended : FallsIntoTurns later turns (Ok WaitFault) mid calls = subst (λ x. FallsIntoTurns later turns x mid calls) w.0 falls in absurd (not_failed calls time.waited (last_failed calls ended.5))
  comes_to_end (inr (inr (inr (inl w)))) = let ended : FallsIntoTurns later turns (Ok Stalled) mid calls = subst (λ x. FallsIntoTurns later turns x mid calls) w.0 falls in absurd (not_stalled ended.5.1 ended.5.2)
  comes_to_end (inr (inr (inr (inr w)))) = inr w

-- ---- the whole

-- the last position of a page's end, and of another
pub last_page : (end : Exit) (journal : List Entry) → IsPageEnd end → last_at end journal ≡ closing_position journal
last_page end journal (inl is) = ap (λ e. last_at e journal) is
last_page end journal (inr is) = ap (λ e. last_at e journal) is
