-- The promise of a run, from what its names came to, its closing, and the text that was put.
use Rattle.std.proofs.Common.{◌≡◌, ◌∙◌, ℕ, ◌+◌, ◌≤◌, Bool, true, false, List, [], ◌∷◌, ◌++◌, length, refl, ap, sym, subst, arith, inl, inr}
use Rattle.std.specs.Prelude.{Err, None, Ok, Option, Result, Some, option_map}
use Rattle.std.proofs.lemmas.List.{append-nil}
use mathlib.Core.List.{IsPrefix}
use Rattle.chan_types.specs.declared.answer.Answer.{Answer}
use Rattle.item_list.specs.declared.no_memory.NoMemory.{NoMemory}
use Rattle.net_world.specs.Logs.{LogGets}
use Rattle.net_world.specs.declared.log.WorldCall.{WorldCall}
use Rattle.channel_model.proofs.Theorems.{course_agrees}
use Rattle.channel_model.specs.Completion.{pending, ready, requests, taken}
use Rattle.channel_model.specs.Course.{IsCourse, IsCourseSoFar, serves_from}
use Rattle.channel_model.specs.Journal.{past_of}
use Rattle.channel_model.specs.Setting.{Setting}
use Rattle.channel_table.specs.Calling.{Owned, known_by_owner}
use Rattle.channel_session.proofs.BegunLemmas.{begins_behind}
use Rattle.channel_session.specs.Beginning.{AreBegun, BeginsPending}
use Rattle.event_runner.proofs.Theorems.{course_then, so_far_then, told_as, told_both, told_by}
use Rattle.event_runner.specs.State.{IsTurnOwner}
use Rattle.event_runner.specs.UnderWay.{IsSoFar, IsUnderWay}
use Rattle.run_end.specs.declared.loop_end.LoopEnd.{LoopEnd}
use Rattle.run_end.specs.declared.loop_end.LoopEnd.TheVariants.{Completed, Stalled, WaitFault}
use Rattle.run_end.specs.declared.ended.Ended.{Ended}
use Rattle.tool_line.specs.Outside.{Outside, OutputTold}
use Rattle.tool_line.specs.Put.{IsPut}
use Rattle.tool_line.specs.declared.ending.Exit.{Exit}
use Rattle.tool_line.specs.declared.ending.Exit.TheVariants.{Failure, OutOfMemory, Stalled as HasStalled, Success, WaitFault as FailedWait}
use Rattle.run_end.specs.Ends.{IsPageEnd}
use Rattle.owner_laws.specs.Sessions.{longest_slice}
use Rattle.acache_tool.specs.Asked.{Asked, setting_for}
use Rattle.acache_tool.specs.Closing.{Closes, closing, end_by}
use Rattle.acache_tool.specs.Completing.{IsComplete, IsGivenTime}
use Rattle.acache_tool.specs.Fates.{HaveFates}
use Rattle.acache_tool.specs.Leaving.{AreGoodParts, AsksAll, IsAt, Leaves, numbers_of}
use Rattle.acache_tool.specs.Naming.{Scene}
use Rattle.acache_tool.specs.Output.{text_at}
use Rattle.acache_tool.specs.Parts.{Open, Part, journal_of, names_of, page, requests_of}
use Rattle.acache_tool.specs.Promise.{IsClosed, IsTraffic, Promise}
use Rattle.net_world.specs.Cause.{Rose}
use Rattle.net_addr.specs.declared.addr.Addr.{Addr}
use Rattle.acache_tool.specs.Running.{IsRun}
use Rattle.acache_tool.specs.Told.{AreTold, AreToldThen}
use Rattle.acache_tool.proofs.ClosedLemmas.{IsDone, is_done}
use Rattle.acache_tool.proofs.FateLemmas.{all_fates}
use Rattle.acache_tool.proofs.RequestLemmas.{none_left}
use Rattle.acache_tool.proofs.SceneLemmas.{owner_alone}
use Rattle.acache_tool.proofs.TimeLemmas.{not_last, not_stalled, page_complete}
use Rattle.acache_tool.proofs.EndLemmas.{IsLastWait}

abbrev pub outside_of : Option (List WorldCall) → ℕ → OutputTold → Outside
outside_of log faults output = record { network = record { log = log; wait_faults = faults }; output = output }

abbrev pub ended_of : ℕ → Owned → List Answer → Ended
ended_of status channel calls = record { status = status; journal = channel.seen; calls = calls }

module _ (room : ℕ) (setting : Setting) (turns : ℕ) (parts : List Part) (last : Option Open) (a c : Owned) (calls_a calls_c : List Answer) (x : Leaves room setting parts last a calls_a) (d : IsDone setting parts last a.seen c.seen calls_c) where
  -- a course of the channel, with what its closing adds
  course_closed : (calls : List WorldCall) (made asides : ℕ) → IsCourse a.setting 0 longest_slice a.seen calls made asides → IsCourse setting 0 longest_slice c.seen calls made asides
  course_closed calls made asides course =
      subst (λ s. IsCourse s 0 longest_slice c.seen calls made asides) x.setting_is
      (subst (λ journal. IsCourse a.setting 0 longest_slice journal calls made asides) (sym d.journal_is)
      (course_then a.setting 0 longest_slice a.seen (closing ∷ d.later) calls made asides d.no_turn course))

  so_far_closed : (calls : List WorldCall) (made asides : ℕ) → IsCourseSoFar a.setting 0 longest_slice a.seen calls made asides → IsCourseSoFar setting 0 longest_slice c.seen calls made asides
  so_far_closed calls made asides course =
      subst (λ s. IsCourseSoFar s 0 longest_slice c.seen calls made asides) x.setting_is
      (subst (λ journal. IsCourseSoFar a.setting 0 longest_slice journal calls made asides) (sym d.journal_is)
      (so_far_then a.setting 0 longest_slice a.seen (closing ∷ d.later) calls made asides d.no_turn course))

  owner : IsTurnOwner (known_by_owner a)
  owner = owner_alone a.seen x.plain

  -- where its first turn began
  begun_closed : (calls : List WorldCall) (made : ℕ) → AreBegun longest_slice made (known_by_owner a) calls → 1 ≤ made → BeginsPending setting 0 longest_slice c.seen calls
  begun_closed calls made begun some =
      subst (λ s. BeginsPending s 0 longest_slice c.seen calls) x.setting_is
      (subst (λ journal. BeginsPending a.setting 0 longest_slice journal calls) (sym d.journal_is)
      (begins_behind a.setting 0 longest_slice a.seen (closing ∷ d.later) calls (begun some)))

  -- whose answers its names have
  fates_at : HaveFates setting c.seen parts
  fates_at = all_fates setting c.seen room parts last calls_c x.right d.asked_are d.called_once d.answers

  -- the closing of a run that came to this end
  closed_at : (end : Exit) → (IsPageEnd end → a.seen ≡ journal_of parts) → (IsPageEnd end → (pending setting (past_of a.seen) ≡ []) × (ready setting (past_of a.seen) ≡ [])) → (end ≡ HasStalled → ¬ (pending setting (past_of a.seen) ≡ [])) → IsClosed setting end parts c.seen
  closed_at end names finished stalled = record {
    earlier = a.seen;
    later = d.later;
    journal_is = d.journal_is;
    plain = x.plain;
    by_names = x.named;
    no_others = names;
    taken_behind = d.taken_behind;
    finished = finished;
    stalled = stalled;
  }

-- ends that aren't another
not_page_wait : IsPageEnd FailedWait → ⊥
not_page_wait (inl e) = absurd (cc e)
not_page_wait (inr e) = absurd (cc e)

not_page_stalled : IsPageEnd HasStalled → ⊥
not_page_stalled (inl e) = absurd (cc e)
not_page_stalled (inr e) = absurd (cc e)

not_page_memory : IsPageEnd OutOfMemory → ⊥
not_page_memory (inl e) = absurd (cc e)
not_page_memory (inr e) = absurd (cc e)

module _ (asked : Asked) (turns : ℕ) (f0 f : ℕ) (l0 : Option (List WorldCall)) (scene : Scene) (c : Owned) (calls : List Answer) (closes : Closes scene.asker.alone c scene.asker.calls calls) (status : ℕ) (out0 out1 : OutputTold) where
  abbrev setting : Setting
  setting = setting_for asked.server

  -- where it is given time, its page is put
  abbrev Completes : List Part → List WorldCall → Type 0
  Completes parts cs = IsGivenTime setting turns (length asked.names) c.seen cs → ¬ Rose out0.faults out1.faults → IsComplete asked.names parts status out0 out1

  abbrev Promised : Type 0
  Promised = Promise asked turns (ended_of status c calls) (outside_of l0 f0 out0) (outside_of scene.log f out1)

  -- all names have their answers
  module _ (parts : List Part) (names : names_of parts ≡ asked.names) (x : IsAt asked.room setting turns parts l0 scene) where
    done : IsDone setting parts None scene.asker.alone.seen c.seen calls
    done = is_done asked.room setting parts None scene.asker.alone c scene.asker.calls calls x.leaves closes

    over : (pending setting (past_of scene.asker.alone.seen) ≡ []) × (ready setting (past_of scene.asker.alone.seen) ≡ [])
    over =
        let all : taken (past_of scene.asker.alone.seen) ≡ requests (past_of scene.asker.alone.seen) =
        x.taken_are ∙ ap numbers_of (sym (x.leaves.accepted_are ∙ append-nil (requests_of parts))) in
        subst (λ s. (pending s (past_of scene.asker.alone.seen) ≡ []) × (ready s (past_of scene.asker.alone.seen) ≡ [])) x.leaves.setting_is
        (none_left scene.asker.alone.setting (past_of scene.asker.alone.seen) x.leaves.lawful.allowed all)

    traffic_page : (end : Exit) → IsPageEnd end → LogGets (IsTraffic setting turns end parts None c.seen) l0 scene.log
    traffic_page end page_end =
        let Way : List WorldCall → Type 0 = λ calls. IsTurnOwner (known_by_owner scene.asker.alone) → IsUnderWay longest_slice x.made (length parts) _ (known_by_owner scene.asker.alone) scene.asker.session.running calls in
        let Begun : List WorldCall → Type 0 = λ calls. IsTurnOwner (known_by_owner scene.asker.alone) → AreBegun longest_slice x.made (known_by_owner scene.asker.alone) calls in
        told_as (λ cs. AreTold setting parts cs × (Way cs × Begun cs)) (IsTraffic setting turns end parts None c.seen)
        (λ cs both.
        let alone = owner asked.room setting turns parts None scene.asker.alone c scene.asker.calls calls x.leaves done in
        let course = course_closed asked.room setting turns parts None scene.asker.alone c scene.asker.calls calls x.leaves done cs x.made (length parts) (both.1.0 alone).course in
        record {
          made = x.made;
          few = omega (arith, x.count);
          asides = length parts;
          once_each = λ e. refl;
          once_more = omega arith;
          course = λ e. course;
          course_so_far = inl course;
          begins = λ e. begun_closed asked.room setting turns parts None scene.asker.alone c scene.asker.calls calls x.leaves done cs x.made (both.1.1 alone);
          agrees = λ e. course_agrees setting 0 longest_slice c.seen cs x.made (length parts) course;
          told = λ e. both.0;
          told_then = λ e. tt;
          last_wait = λ e. absurd (not_page_wait (subst IsPageEnd e page_end));
          all_turns = λ e. absurd (not_page_stalled (subst IsPageEnd e page_end));
        })
        l0 scene.log (told_both (AreTold setting parts) (λ cs. Way cs × Begun cs) l0 scene.log x.told (told_both Way Begun l0 scene.log x.behind.runs x.behind.begun))

    promise_page : (end : Exit) → IsPageEnd end → (end ≡ Success → AreGoodParts parts) → (end ≡ Failure → ¬ AreGoodParts parts) → IsPut (text_at (page parts) end) end status out0 out1 → Promised
    promise_page end page_end good bad put = record {
      end = end;
      ends = inl page_end;
      parts = parts;
      last = None;
      in_order = ([], append-nil (names_of parts ++ []) ∙ append-nil (names_of parts) ∙ names);
      all = λ e. (names, refl);
      right = x.leaves.right;
      missed = tt;
      lawful = done.lawful;
      asked_are = done.asked_are;
      called_once = done.called_once;
      answers = done.answers;
      all_taken = done.all_taken;
      closed = closed_at asked.room setting turns parts None scene.asker.alone c scene.asker.calls calls x.leaves done end (λ e. x.journal_is) (λ e. over) (λ e. absurd (not_page_stalled (subst IsPageEnd e page_end)));
      fates = fates_at asked.room setting turns parts None scene.asker.alone c scene.asker.calls calls x.leaves done;
      success = good;
      failure = bad;
      wait_fault = λ e. absurd (not_page_wait (subst IsPageEnd e page_end));
      traffic = traffic_page end page_end;
      completes = told_as (AreTold setting parts) (Completes parts) (λ cs told time quiet. page_complete asked.names parts end status out0 out1 page_end names put quiet) l0 scene.log x.told;
      put = put;
    }

    pub promise_whole : IsPut (text_at scene.shown.text.items (end_by (Ok Completed) scene.shown.good)) (end_by (Ok Completed) scene.shown.good) status out0 out1 → Promised
    promise_whole put = by scene.shown.good refl put
      where
        by : (good : Bool) → scene.shown.good ≡ good → IsPut (text_at scene.shown.text.items (end_by (Ok Completed) good)) (end_by (Ok Completed) good) status out0 out1 → Promised
        by true is put = promise_page Success (inl refl) (λ e. x.good_is.0 is) (λ e. absurd (cc e)) (subst (λ t. IsPut (Some t) Success status out0 out1) x.text_is put)
        by false is put = promise_page Failure (inr refl) (λ e. absurd (cc e)) (λ e all. absurd (let h = x.good_is.1 all in cc)) (subst (λ t. IsPut (Some t) Failure status out0 out1) x.text_is put)

  -- a wait failed
  pub promise_wait : IsPut (text_at scene.shown.text.items FailedWait) FailedWait status out0 out1 → AsksAll (Ok WaitFault) asked.room setting turns asked.names l0 f0 f scene → Promised
  promise_wait put x =
      let parts = x.0 in
      let leaves = x.3 in
      let ends = x.4 in
      let done = is_done asked.room setting parts (Some x.1) scene.asker.alone c scene.asker.calls calls leaves closes in
      let Way : List WorldCall → Type 0 = λ cs. IsTurnOwner (known_by_owner scene.asker.alone) → IsUnderWay longest_slice ends.made (length parts + 1) _ (known_by_owner scene.asker.alone) scene.asker.session.running cs in
      let Begun : List WorldCall → Type 0 = λ cs. IsTurnOwner (known_by_owner scene.asker.alone) → AreBegun longest_slice ends.made (known_by_owner scene.asker.alone) cs in
      record {
        end = FailedWait;
        ends = inr (inl refl);
        parts = parts;
        last = Some x.1;
        in_order = x.2;
        all = λ e. absurd (not_page_wait e);
        right = leaves.right;
        missed = leaves.missed;
        lawful = done.lawful;
        asked_are = done.asked_are;
        called_once = done.called_once;
        answers = done.answers;
        all_taken = done.all_taken;
        closed = closed_at asked.room setting turns parts (Some x.1) scene.asker.alone c scene.asker.calls calls leaves done FailedWait (λ e. absurd (not_page_wait e)) (λ e. absurd (not_page_wait e)) (λ e. absurd (cc e));
        fates = fates_at asked.room setting turns parts (Some x.1) scene.asker.alone c scene.asker.calls calls leaves done;
        success = λ e. absurd (cc e);
        failure = λ e. absurd (cc e);
        wait_fault = λ e. x.5;
        traffic = told_as (λ cs. AreToldThen setting parts x.1 cs × (IsLastWait cs × (Way cs × Begun cs))) (IsTraffic setting turns FailedWait parts (Some x.1) c.seen)
            (λ cs both.
            let alone = owner asked.room setting turns parts (Some x.1) scene.asker.alone c scene.asker.calls calls leaves done in
            let course = course_closed asked.room setting turns parts (Some x.1) scene.asker.alone c scene.asker.calls calls leaves done cs ends.made (length parts + 1) (both.1.1.0 alone).course in
            record {
              made = ends.made;
              few = omega (arith, ends.count);
              asides = length parts + 1;
              once_each = λ e. absurd (not_page_wait e);
              once_more = omega arith;
              course = λ e. course;
              course_so_far = inl course;
              begins = λ e. begun_closed asked.room setting turns parts (Some x.1) scene.asker.alone c scene.asker.calls calls leaves done cs ends.made (both.1.1.1 alone);
              agrees = λ e. course_agrees setting 0 longest_slice c.seen cs ends.made (length parts + 1) course;
              told = λ e. absurd (not_page_wait e);
              told_then = λ e. both.0;
              last_wait = λ e. both.1.0;
              all_turns = λ e. absurd (cc e);
            })
            l0 scene.log
            (told_both (AreToldThen setting parts x.1) (λ cs. IsLastWait cs × (Way cs × Begun cs)) l0 scene.log ends.told
            (told_both IsLastWait (λ cs. Way cs × Begun cs) l0 scene.log ends.last (told_both Way Begun l0 scene.log ends.runs ends.begun)));
        completes = told_as IsLastWait (Completes parts) (λ cs last time quiet. absurd (not_last cs setting turns (length asked.names) c.seen last time)) l0 scene.log ends.last;
        put = put;
      }

  -- no turn was left
  pub promise_stalled : IsPut (text_at scene.shown.text.items HasStalled) HasStalled status out0 out1 → AsksAll (Ok Stalled) asked.room setting turns asked.names l0 f0 f scene → Promised
  promise_stalled put x =
      let parts = x.0 in
      let leaves = x.3 in
      let ends = x.4 in
      let done = is_done asked.room setting parts (Some x.1) scene.asker.alone c scene.asker.calls calls leaves closes in
      let alone = owner asked.room setting turns parts (Some x.1) scene.asker.alone c scene.asker.calls calls leaves done in
      let Way : List WorldCall → Type 0 = λ cs. IsTurnOwner (known_by_owner scene.asker.alone) → IsUnderWay longest_slice turns (length parts + 1) _ (known_by_owner scene.asker.alone) scene.asker.session.running cs in
      let Begun : List WorldCall → Type 0 = λ cs. IsTurnOwner (known_by_owner scene.asker.alone) → AreBegun longest_slice turns (known_by_owner scene.asker.alone) cs in
      record {
        end = HasStalled;
        ends = inr (inr (inl refl));
        parts = parts;
        last = Some x.1;
        in_order = x.2;
        all = λ e. absurd (not_page_stalled e);
        right = leaves.right;
        missed = leaves.missed;
        lawful = done.lawful;
        asked_are = done.asked_are;
        called_once = done.called_once;
        answers = done.answers;
        all_taken = done.all_taken;
        closed = closed_at asked.room setting turns parts (Some x.1) scene.asker.alone c scene.asker.calls calls leaves done HasStalled (λ e. absurd (not_page_stalled e)) (λ e. absurd (not_page_stalled e))
            (λ e none. ends.some_pending (ap (λ s. pending s (past_of scene.asker.alone.seen)) leaves.setting_is ∙ none));
        fates = fates_at asked.room setting turns parts (Some x.1) scene.asker.alone c scene.asker.calls calls leaves done;
        success = λ e. absurd (cc e);
        failure = λ e. absurd (cc e);
        wait_fault = λ e. absurd (cc e);
        traffic = told_as (λ cs. AreToldThen setting parts x.1 cs × (Way cs × Begun cs)) (IsTraffic setting turns HasStalled parts (Some x.1) c.seen)
            (λ cs both.
            let course = course_closed asked.room setting turns parts (Some x.1) scene.asker.alone c scene.asker.calls calls leaves done cs turns (length parts + 1) (both.1.0 alone).course in
            record {
              made = turns;
              few = omega arith;
              asides = length parts + 1;
              once_each = λ e. absurd (not_page_stalled e);
              once_more = omega arith;
              course = λ e. course;
              course_so_far = inl course;
              begins = λ e. begun_closed asked.room setting turns parts (Some x.1) scene.asker.alone c scene.asker.calls calls leaves done cs turns (both.1.1 alone);
              agrees = λ e. course_agrees setting 0 longest_slice c.seen cs turns (length parts + 1) course;
              told = λ e. absurd (not_page_stalled e);
              told_then = λ e. both.0;
              last_wait = λ e. absurd (cc e);
              all_turns = λ e. refl;
            })
            l0 scene.log (told_both (AreToldThen setting parts x.1) (λ cs. Way cs × Begun cs) l0 scene.log ends.told (told_both Way Begun l0 scene.log ends.behind.runs ends.behind.begun));
        completes = told_as Way (Completes parts)
            (λ cs way time quiet.
            absurd (not_stalled asked.server turns asked.names parts x.1 scene.asker.alone (closing ∷ done.later) leaves.setting_is leaves.plain leaves.accepted_are x.2 ends.some_pending leaves.lawful cs (length parts + 1)
            (way alone).course (subst (λ journal. IsGivenTime setting turns (length asked.names) journal cs) done.journal_is time)))
            l0 scene.log ends.behind.runs;
        put = put;
      }

  -- memory was wanting
  pub promise_cut : (fault : NoMemory) → IsPut (text_at scene.shown.text.items OutOfMemory) OutOfMemory status out0 out1 → AsksAll (Err fault) asked.room setting turns asked.names l0 f0 f scene → Promised
  promise_cut fault put x =
      let parts = x.0 in
      let leaves = x.3 in
      let ends = x.4 in
      let done = is_done asked.room setting parts x.1 scene.asker.alone c scene.asker.calls calls leaves closes in
      record {
        end = OutOfMemory;
        ends = inr (inr (inr refl));
        parts = parts;
        last = x.1;
        in_order = x.2;
        all = λ e. absurd (not_page_memory e);
        right = leaves.right;
        missed = leaves.missed;
        lawful = done.lawful;
        asked_are = done.asked_are;
        called_once = done.called_once;
        answers = done.answers;
        all_taken = done.all_taken;
        closed = closed_at asked.room setting turns parts x.1 scene.asker.alone c scene.asker.calls calls leaves done OutOfMemory (λ e. absurd (not_page_memory e)) (λ e. absurd (not_page_memory e)) (λ e. absurd (cc e));
        fates = fates_at asked.room setting turns parts x.1 scene.asker.alone c scene.asker.calls calls leaves done;
        success = λ e. absurd (cc e);
        failure = λ e. absurd (cc e);
        wait_fault = λ e. absurd (cc e);
        traffic = told_as (λ cs. IsTurnOwner (known_by_owner scene.asker.alone) → IsSoFar longest_slice turns ends.asides (known_by_owner scene.asker.alone) cs) (IsTraffic setting turns OutOfMemory parts x.1 c.seen)
            (λ cs far.
            let so_far = far (owner asked.room setting turns parts x.1 scene.asker.alone c scene.asker.calls calls leaves done) in
            record {
              made = so_far.0;
              few = so_far.1;
              asides = ends.asides;
              once_each = λ e. absurd (not_page_memory e);
              once_more = ends.few;
              course = λ e. absurd (e refl);
              course_so_far = so_far_closed asked.room setting turns parts x.1 scene.asker.alone c scene.asker.calls calls leaves done cs so_far.0 ends.asides so_far.2;
              begins = λ e. absurd (e refl);
              agrees = λ e. absurd (e refl);
              told = λ e. absurd (not_page_memory e);
              told_then = λ e. absurd (e refl);
              last_wait = λ e. absurd (cc e);
              all_turns = λ e. absurd (cc e);
            })
            l0 scene.log ends.ran;
        completes = told_as _ (Completes parts) (λ cs far time quiet. inr put.told.0) l0 scene.log ends.ran;
        put = put;
      }

  -- by what the names came to
  pub promised : (result : Result LoopEnd NoMemory) (end : Exit) → end ≡ end_by result scene.shown.good → IsPut (text_at scene.shown.text.items end) end status out0 out1 → AsksAll result asked.room setting turns asked.names l0 f0 f scene → Promised
  promised result end is put x = by result (subst (λ e. IsPut (text_at scene.shown.text.items e) e status out0 out1) is put) x
    where
      by : (result : Result LoopEnd NoMemory) → IsPut (text_at scene.shown.text.items (end_by result scene.shown.good)) (end_by result scene.shown.good) status out0 out1 → AsksAll result asked.room setting turns asked.names l0 f0 f scene → Promised
      by (Ok Completed) put x = promise_whole x.0 x.1 x.2 put
      by (Ok WaitFault) put x = promise_wait put x
      by (Ok Stalled) put x = promise_stalled put x
      by (Err fault) put x = promise_cut fault put x

-- nothing was told
pub told_nothing : (server : Addr) (l : Option (List WorldCall)) → LogGets (λ calls. IsPrefix calls (serves_from 0 (setting_for server).options.servers)) l l
told_nothing server l = told_by (λ calls. IsPrefix calls (serves_from 0 (setting_for server).options.servers)) [] (serves_from 0 (setting_for server).options.servers, refl) l l (same l)
  where
    same : (l : Option (List WorldCall)) → l ≡ option_map (λ calls. calls ++ []) l
    same None = refl
    same (Some x) = ap Some (sym (append-nil x))

-- memory was wanting before the run began
pub unbegun : (asked : Asked) (turns f0 f1 : ℕ) (l m : Option (List WorldCall)) (out : OutputTold) → LogGets (λ calls. IsPrefix calls (serves_from 0 (setting_for asked.server).options.servers)) l m →
    IsRun asked turns (record { status = 5; journal = []; calls = [] }) (outside_of l f0 out) (outside_of m f1 out)
unbegun asked turns f0 f1 l m out told = inr (record { no_journal = refl; no_calls = refl; status = refl; told = told; put = (refl, refl) })
