-- The promise of a run: that of its session, and of the text that is put.
use Rattle.std.proofs.Common.{◌≡◌, ◌≢◌, ℕ, List, [], refl, sym, subst, inl, inr, arith}
use Rattle.std.specs.Prelude.{None, Option, Some, ◌⊎◌}
use Rattle.chan_types.specs.declared.answer.Answer.{Answer}
use Rattle.chan_types.specs.declared.journal.Entry.{Entry}
use Rattle.net_addr.specs.declared.addr.ServerAddr.{ServerAddr}
use Rattle.net_world.specs.Cause.{Rose}
use Rattle.channel_model.specs.Course.{IsCourseSoFar}
use Rattle.channel_model.specs.Setting.{Setting}
use Rattle.channel_model.proofs.Theorems.{so_far_nearly}
use Rattle.channel_progress.specs.Waking.{NoWaitFailed}
use Rattle.resolv_options.specs.Values.{OptionValues}
use Rattle.event_runner.proofs.Theorems.{told_as}
use Rattle.tool_line.specs.Outside.{Outside, OutputTold}
use Rattle.tool_line.specs.Put.{IsPut, PutsText}
use Rattle.tool_line.specs.declared.ending.Exit.{Exit}
use Rattle.tool_line.specs.declared.ending.Exit.TheVariants.{Failure, OutOfMemory, Success, WaitFault}
use Rattle.run_end.specs.Ends.{IsPageEnd}
use Rattle.run_end.specs.declared.ended.Ended.{Ended}
use Rattle.owner_laws.specs.Sessions.{longest_slice}
use Rattle.owner_laws.proofs.ListLemmas.{log_same}
use Rattle.owner_session.specs.Asked.{Task}
use Rattle.owner_session.specs.Promise.{IsGivenTime, IsTraffic, SessionPromise}
use Rattle.owner_session.specs.declared.session_end.SessionEnd.{SessionEnd}
use Rattle.owner_session.proofs.Theorems.{at_most_none}
use Rattle.ahost_tool.specs.Asked.{Asked}
use Rattle.ahost_tool.specs.Page.{report_of, text_at}
use Rattle.ahost_tool.specs.Promise.{IsComplete, Promise}
use Rattle.ahost_tool.specs.declared.reporting.Report.{Report}

-- where the turns were completed the report is put, if the output doesn't fail
pub complete_of : (report : Report) (options : OptionValues) (calls : List Answer) (journal : List Entry) (end : Exit) (status : ℕ) (old new : OutputTold) → IsPut (text_at report options journal calls end) end status old new →
    ¬ Rose old.faults new.faults → IsPageEnd end ⊎ (end ≡ OutOfMemory) → IsComplete report options (record { status = status; journal = journal; calls = calls }) old new
complete_of report options calls journal end status old new put quiet (inl (inl is)) = of (subst (λ e. PutsText (text_at report options journal calls e) e status old new) is put.told)
  where
    of : PutsText (Some (report_of report options journal calls)) Success status old new → IsComplete report options (record { status = status; journal = journal; calls = calls }) old new
    of (inl whole) = inl (inl whole.0, whole.1)
    of (inr (inl part)) = absurd (quiet part.1)
    of (inr (inr none)) = inr none.0
complete_of report options calls journal end status old new put quiet (inl (inr is)) = of (subst (λ e. PutsText (text_at report options journal calls e) e status old new) is put.told)
  where
    of : PutsText (Some (report_of report options journal calls)) Failure status old new → IsComplete report options (record { status = status; journal = journal; calls = calls }) old new
    of (inl whole) = inl (inr whole.0, whole.1)
    of (inr (inl part)) = absurd (quiet part.1)
    of (inr (inr none)) = inr none.0
complete_of report options calls journal end status old new put quiet (inr is) =
    inr (let h : PutsText None OutOfMemory status old new = subst (λ e. PutsText (text_at report options journal calls e) e status old new) is put.told in h.0)

-- what a session has to do, without what is put
abbrev pub task_in : Asked → Task
task_in asked = record { askings = asked.askings; orders = asked.orders; later = asked.later }

-- the session keeps its promise, and its text was put
pub promise_of : {B : Type 0} (asked : Asked) (setting : Setting) (turns : ℕ) (session : SessionEnd B) (status : ℕ) (before after : Outside) →
    SessionPromise (task_in asked) setting turns session before.network after.network → IsPut (text_at asked.report setting.options session.journal session.calls session.end) session.end status before.output after.output →
    Promise asked setting turns (record { status = status; journal = session.journal; calls = session.calls }) before after
promise_of asked setting turns session status before after promise put = record {
  end = session.end;
  ends = promise.ends;
  lawful = promise.lawful;
  ruled = promise.ruled;
  asked_all = promise.asked_all;
  asked_at_most = promise.asked_at_most;
  asked_first = promise.asked_first;
  lost = promise.lost;
  obeyed = promise.obeyed;
  none_lost = promise.none_lost;
  called_once = promise.called_once;
  called_with_fates = promise.called_with_fates;
  all_taken = promise.all_taken;
  destroyed = λ some. promise.destroyed;
  success = promise.success;
  failure = promise.failure;
  finished = promise.finished;
  wait_fault = promise.wait_fault;
  stalled = promise.stalled;
  sets = promise.sets;
  traffic = told_as (λ calls. IsTraffic setting asked.later turns session.end session.journal calls × (promise.lost ≡ 0 → session.end ≢ WaitFault → NoWaitFailed calls))
      (IsTraffic setting asked.later turns session.end session.journal) (λ calls traffic. traffic.0) before.network.log after.network.log promise.traffic;
  completes = told_as (λ calls. IsGivenTime setting turns session.journal calls → IsPageEnd session.end ⊎ (session.end ≡ OutOfMemory))
      (λ calls. IsGivenTime setting turns session.journal calls → ¬ Rose before.output.faults after.output.faults →
      IsComplete asked.report setting.options (record { status = status; journal = session.journal; calls = session.calls }) before.output after.output)
      (λ calls completes time quiet. complete_of asked.report setting.options session.calls session.journal session.end status before.output after.output put quiet (completes time))
      before.network.log after.network.log promise.completes;
  put = put;
}

-- ---- a run that hands out this journal and these answers

pub promise_ended : (asked : Asked) (setting : Setting) (turns : ℕ) (ended : Ended) (journal : List Entry) (calls : List Answer) (before after : Outside) → ended.journal ≡ journal → ended.calls ≡ calls →
    Promise asked setting turns (record { status = ended.status; journal = journal; calls = calls }) before after → Promise asked setting turns ended before after
promise_ended asked setting turns ended journal calls before after journal_is calls_are promise =
    subst (λ j. Promise asked setting turns (record { status = ended.status; journal = j; calls = ended.calls }) before after) (sym journal_is)
    (subst (λ cs. Promise asked setting turns (record { status = ended.status; journal = journal; calls = cs }) before after) (sym calls_are) promise)

-- ---- a run that made no channel, for want of memory

-- nothing was called
nothing_called : (setting : Setting) (later : Option (List ServerAddr)) (turns : ℕ) → IsTraffic setting later turns OutOfMemory [] []
nothing_called setting later turns =
    let so_far : IsCourseSoFar setting 0 longest_slice [] [] 0 0 = inr (inr (record { told_so_far = (_, refl); no_turn = refl }, refl, refl)) in
    record {
      made = 0;
      few = omega arith;
      readings = refl;
      course = λ served. absurd (served refl);
      sets_behind = inr (refl, omega arith, refl);
      course_so_far = so_far;
      begins = λ some. absurd (omega (arith, some));
      agrees = λ served. absurd (served refl);
      nearly_agrees = so_far_nearly setting 0 longest_slice [] [] 0 0 so_far;
      waits = inl refl;
      last_wait = λ is. absurd (cc is);
      none_failed = λ other served. refl;
      all_turns = λ is. absurd (cc is);
    }

pub promise_early : (asked : Asked) (setting : Setting) (turns : ℕ) (outside : Outside) → Promise asked setting turns (record { status = 5; journal = []; calls = [] }) outside outside
promise_early asked setting turns outside = record {
  end = OutOfMemory;
  ends = inr (inr (inr refl));
  lawful = record { allowed = tt };
  ruled = refl;
  asked_all = λ served. absurd (served refl);
  asked_at_most = (asked.askings, refl);
  asked_first = record { asking = []; behind = []; parts = refl; asks_only = refl; none_behind = refl };
  lost = 0;
  obeyed = record { performances = []; requests_are = refl; performed = tt; givers = refl; lost_are = refl };
  none_lost = λ served. refl;
  called_once = λ request. refl;
  called_with_fates = tt;
  all_taken = (refl, refl);
  destroyed = λ some. absurd (some refl);
  success = λ is. absurd (cc is);
  failure = λ is. absurd (cc is);
  finished = λ page. (refl, refl);
  wait_fault = λ is. absurd (cc is);
  stalled = λ is. absurd (cc is);
  sets = at_most_none setting asked.later [] refl;
  traffic = log_same (IsTraffic setting asked.later turns OutOfMemory []) (nothing_called setting asked.later turns) outside.network.log;
  completes = log_same (λ calls. IsGivenTime setting turns [] calls → ¬ Rose outside.output.faults outside.output.faults → IsComplete asked.report setting.options (record { status = 5; journal = []; calls = [] }) outside.output outside.output)
      (λ time quiet. inr refl) outside.network.log;
  put = record { told = (refl, (refl, refl)); counted = omega arith };
}
