-- The promise of a run: that of its session, which asks one request, and of the text that is put.
use Rattle.std.proofs.Common.{◌≡◌, ◌≢◌, ℕ, ◌==◌, List, [], ◌∷◌, length, refl, sym, ap, subst, ◌∙◌, map, Bool, true, inl, inr, arith}
use Rattle.std.specs.Prelude.{None, Option, Some, ◌⊎◌}
use Rattle.std.specs.List.{list_all, range_with_len}
use mathlib.Core.List.{IsPrefix}
use Rattle.chan_types.specs.Plans.{blank}
use Rattle.chan_types.specs.declared.answer.Answer.{Answer}
use Rattle.chan_types.specs.declared.journal.Entry.{Entry}
use Rattle.chan_types.specs.declared.spec.Spec.{Spec}
use Rattle.net_world.specs.Cause.{Rose}
use Rattle.net_world.specs.declared.log.WorldCall.{WorldCall}
use Rattle.channel_model.specs.Commands.{closing_position}
use Rattle.channel_model.specs.Completion.{fate, occurrences, requests, taken}
use Rattle.channel_model.specs.Course.{IsCourseSoFar}
use Rattle.channel_model.specs.Journal.{accepted, past_of}
use Rattle.channel_model.specs.Setting.{Setting}
use Rattle.channel_model.proofs.Theorems.{requests_numbered, so_far_nearly}
use Rattle.channel_progress.specs.Waking.{NoWaitFailed}
use Rattle.event_runner.proofs.Theorems.{told_as}
use Rattle.journal_text.specs.declared.book.Book.{Book}
use Rattle.resolv_options.specs.Values.{OptionValues}
use Rattle.tool_line.specs.Outside.{Outside, OutputTold}
use Rattle.tool_line.specs.Put.{IsPut, PutsText}
use Rattle.tool_line.specs.Words.{Text}
use Rattle.tool_line.specs.declared.ending.Exit.{Exit}
use Rattle.tool_line.specs.declared.ending.Exit.TheVariants.{Failure, OutOfMemory, Success, WaitFault}
use Rattle.run_end.specs.Ends.{IsPageEnd}
use Rattle.owner_laws.specs.Sessions.{longest_slice}
use Rattle.owner_laws.proofs.ListLemmas.{log_same}
use Rattle.owner_session.specs.Asked.{AreSilent, Task, task_of}
use Rattle.owner_session.specs.Promise.{IsGivenTime as HasTime, IsTraffic as SessionTraffic, SessionPromise}
use Rattle.owner_session.specs.declared.session_end.SessionEnd.{SessionEnd}
use Rattle.adig_tool.specs.Entries.{first_request, is_own, no_orders}
use Rattle.adig_tool.specs.Output.{book_of, page_for, text_at}
use Rattle.adig_tool.specs.Promise.{IsComplete, IsGivenTime, IsTraffic, Promise}
use Rattle.adig_tool.proofs.ObeyedLemmas.{obeyed}
use Rattle.adig_tool.proofs.OneLemmas.{AreUncommanded, accepted_few, accepted_one, closed_of, fates_numbered, numbers_of_few, own_of, prefix_of, same_few}

-- ---- the network's calls

-- what a session called of the network that sets no servers and loses no request
traffic_of : (setting : Setting) (turns : ℕ) (end : Exit) (journal : List Entry) (lost : ℕ) → lost ≡ 0 → (calls : List WorldCall) →
    SessionTraffic setting None turns end journal calls × (lost ≡ 0 → end ≢ WaitFault → NoWaitFailed calls) → IsTraffic setting turns end journal calls
traffic_of setting turns end journal lost none calls traffic = record {
  made = traffic.0.made;
  few = traffic.0.few;
  readings = traffic.0.readings;
  course = traffic.0.course;
  course_so_far = traffic.0.course_so_far;
  begins = traffic.0.begins;
  agrees = traffic.0.agrees;
  nearly_agrees = traffic.0.nearly_agrees;
  last_wait = traffic.0.last_wait;
  none_failed = traffic.1 none;
  all_turns = traffic.0.all_turns;
}

-- ---- the text

-- where the turns were completed the page is put, if the output doesn't fail
complete_of : (page : Option Text) (end : Exit) (status : ℕ) (old new : OutputTold) → IsPut (text_at page end) end status old new → ¬ Rose old.faults new.faults →
    IsPageEnd end ⊎ (end ≡ OutOfMemory) → IsComplete page status old new
complete_of page end status old new put quiet (inl (inl is)) = by page (subst (λ e. PutsText (text_at page e) e status old new) is put.told)
  where
    by : (page : Option Text) → PutsText page Success status old new → IsComplete page status old new
    by None none = inr none.0
    by (Some page) (inl whole) = inl (inl whole.0, whole.1)
    by (Some page) (inr (inl part)) = absurd (quiet part.1)
    by (Some page) (inr (inr none)) = inr none.0
complete_of page end status old new put quiet (inl (inr is)) = by page (subst (λ e. PutsText (text_at page e) e status old new) is put.told)
  where
    by : (page : Option Text) → PutsText page Failure status old new → IsComplete page status old new
    by None none = inr none.0
    by (Some page) (inl whole) = inl (inr whole.0, whole.1)
    by (Some page) (inr (inl part)) = absurd (quiet part.1)
    by (Some page) (inr (inr none)) = inr none.0
complete_of page end status old new put quiet (inr is) =
    inr (let h : PutsText None OutOfMemory status old new = subst (λ e. PutsText (text_at page e) e status old new) is put.told in h.0)

-- the book that was printed is that of the setting and the journal
told_same : (spec : Spec) (as_book : Bool) (setting : Setting) (seen : List Entry) (calls : List Answer) (end : Exit) (status : ℕ) (old new : OutputTold) (options : OptionValues) (hosts : List ℕ) (journal : List Entry) →
    options ≡ setting.options → hosts ≡ [] → journal ≡ seen →
    IsPut (text_at (page_for spec as_book (record { options = options; hosts = hosts; journal = journal }) calls) end) end status old new →
    IsPut (text_at (page_for spec as_book (book_of setting seen) calls) end) end status old new
told_same spec as_book setting seen calls end status old new options hosts journal same_options no_hosts same_journal put =
    let book : ◌≡◌ {A = Book} (record { options = options; hosts = hosts; journal = journal }) (book_of setting seen) = cc in
    subst (λ b. IsPut (text_at (page_for spec as_book b calls) end) end status old new) book put

-- ---- the whole

-- the one request, with a callback that commands nothing
abbrev pub one_task : Spec → Task
one_task spec = task_of (spec ∷ []) (blank 0 ∷ []) no_orders None

all_one : (ns : List ℕ) → (ns ≡ []) ⊎ (ns ≡ 1 ∷ []) → list_all (λ n. n == 1) ns ≡ true
all_one ns (inl none) = ap (list_all (λ n. n == 1)) none
all_one ns (inr one) = ap (list_all (λ n. n == 1)) one

module _ {B : Type 0} (spec : Spec) (as_book : Bool) (setting : Setting) (turns : ℕ) (session : SessionEnd B) (before after : Outside)
    (promise : SessionPromise (one_task spec) setting turns session before.network after.network) where
  silent : AreSilent (one_task spec).askings
  silent = (refl, tt)

  uncommanded : AreUncommanded session.journal
  uncommanded = (promise.silent silent).0

  own : list_all is_own session.journal ≡ true
  own = own_of session.journal uncommanded promise.ruled promise.sets

  numbered : requests (past_of session.journal) ≡ range_with_len 1 (length (accepted (past_of session.journal)))
  numbered = requests_numbered setting (past_of session.journal) promise.lawful.allowed

  few : (accepted (past_of session.journal) ≡ []) ⊎ (accepted (past_of session.journal) ≡ first_request spec ∷ [])
  few = accepted_few spec session.journal uncommanded numbered promise.asked_at_most

  numbers : (requests (past_of session.journal) ≡ []) ⊎ (requests (past_of session.journal) ≡ 1 ∷ [])
  numbers = numbers_of_few spec (accepted (past_of session.journal)) few

  taken_is : taken (past_of session.journal) ≡ requests (past_of session.journal)
  taken_is = same_few (taken (past_of session.journal)) (requests (past_of session.journal)) numbers
      (λ n. ap (occurrences n) (sym promise.called) ∙ promise.called_once n)

  at_most : IsPrefix (accepted (past_of session.journal)) (first_request spec ∷ [])
  at_most = prefix_of spec (accepted (past_of session.journal)) few

  -- the session keeps its promise, and its text was put
  pub promise_of : (status : ℕ) (options : OptionValues) (hosts : List ℕ) → options ≡ setting.options → hosts ≡ [] →
      IsPut (text_at (page_for spec as_book (record { options = options; hosts = hosts; journal = session.journal }) session.calls) session.end) session.end status before.output after.output →
      Promise spec as_book setting turns (record { status = status; journal = session.journal; calls = session.calls }) before after
  promise_of status options hosts same_options no_hosts printed =
      let put = told_same spec as_book setting session.journal session.calls session.end status before.output after.output options hosts session.journal same_options no_hosts refl printed in
      record {
        end = session.end;
        ends = promise.ends;
        lawful = promise.lawful;
        own = own;
        asked = λ served. accepted_one spec session.journal uncommanded numbered (promise.asked_all served);
        asked_at_most = at_most;
        obeyed = obeyed setting spec session.journal no_orders (closing_position session.journal) at_most own (ap (list_all (λ n. n == 1)) taken_is ∙ all_one (requests (past_of session.journal)) numbers);
        called_once = fates_numbered setting (past_of session.journal) session.calls promise.called_with_fates ∙ ap (map (λ n. fate setting n (past_of session.journal))) (promise.called ∙ taken_is);
        all_taken = promise.all_taken;
        destroyed = λ some. closed_of session.journal uncommanded promise.closed;
        success = promise.success;
        failure = promise.failure;
        finished = promise.finished;
        wait_fault = promise.wait_fault;
        stalled = promise.stalled;
        traffic = told_as (λ calls. SessionTraffic setting None turns session.end session.journal calls × (promise.lost ≡ 0 → session.end ≢ WaitFault → NoWaitFailed calls)) (IsTraffic setting turns session.end session.journal)
            (traffic_of setting turns session.end session.journal promise.lost (promise.silent silent).1) before.network.log after.network.log promise.traffic;
        completes = told_as (λ calls. HasTime setting turns session.journal calls → IsPageEnd session.end ⊎ (session.end ≡ OutOfMemory))
            (λ calls. IsGivenTime setting turns session.journal calls → ¬ Rose before.output.faults after.output.faults →
            IsComplete (page_for spec as_book (book_of setting session.journal) session.calls) status before.output after.output)
            (λ calls completes time quiet. complete_of (page_for spec as_book (book_of setting session.journal) session.calls) session.end status before.output after.output put quiet
            (completes (record { enough = omega (arith, time.enough); wakes = time.wakes; waited = time.waited })))
            before.network.log after.network.log promise.completes;
        put = put;
      }

-- ---- a run that made no channel, for want of memory

-- nothing was called
nothing_called : (setting : Setting) (turns : ℕ) → IsTraffic setting turns OutOfMemory [] []
nothing_called setting turns =
    let so_far : IsCourseSoFar setting 0 longest_slice [] [] 0 0 = inr (inr (record { told_so_far = (_, refl); no_turn = refl }, refl, refl)) in
    record {
      made = 0;
      few = omega arith;
      readings = refl;
      course = λ served. absurd (served refl);
      course_so_far = so_far;
      begins = λ some. absurd (omega (arith, some));
      agrees = λ served. absurd (served refl);
      nearly_agrees = so_far_nearly setting 0 longest_slice [] [] 0 0 so_far;
      last_wait = λ is. absurd (cc is);
      none_failed = λ other. refl;
      all_turns = λ is. absurd (cc is);
    }

pub promise_early : (spec : Spec) (as_book : Bool) (setting : Setting) (turns : ℕ) (outside : Outside) → Promise spec as_book setting turns (record { status = 5; journal = []; calls = [] }) outside outside
promise_early spec as_book setting turns outside = record {
  end = OutOfMemory;
  ends = inr (inr (inr refl));
  lawful = record { allowed = tt };
  own = refl;
  asked = λ served. absurd (served refl);
  asked_at_most = (first_request spec ∷ [], refl);
  obeyed = obeyed setting spec [] no_orders 0 (first_request spec ∷ [], refl) refl refl;
  called_once = refl;
  all_taken = (refl, refl);
  destroyed = λ some. absurd (some refl);
  success = λ is. absurd (cc is);
  failure = λ is. absurd (cc is);
  finished = λ page. (refl, refl);
  wait_fault = λ is. absurd (cc is);
  stalled = λ is. absurd (cc is);
  traffic = log_same (IsTraffic setting turns OutOfMemory []) (nothing_called setting turns) outside.network.log;
  completes = log_same (λ calls. IsGivenTime setting turns [] calls → ¬ Rose outside.output.faults outside.output.faults → IsComplete (page_for spec as_book (book_of setting []) []) 5 outside.output outside.output)
      (λ time quiet. inr refl) outside.network.log;
  put = record { told = (refl, (refl, refl)); counted = omega arith };
}
