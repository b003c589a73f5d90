-- The whole promise of a run with workers: of its session, and of the text that was put behind it.
use Rattle.std.proofs.Common.{◌≡◌, ◌≢◌, ◌∙◌, ℕ, ◌-◌, ◌^◌, ◌≤◌, min, List, [], length, refl, sym, ap, subst, inl, inr, arith}
use Rattle.std.specs.Prelude.{IfSome, Ok, Option, Result, Some, ◌⊎◌}
use mathlib.Core.List.{IsPrefix}
use Rattle.chan_types.specs.declared.answer.Answer.{Answer}
use Rattle.chan_types.specs.declared.journal.Entry.{Entry}
use Rattle.channel_journal.specs.declared.kept.KeptJournal.{KeptJournal}
use Rattle.channel_model.specs.Commands.{ObeysOrders, closing_position, past_at}
use Rattle.channel_model.specs.Course.{IsCourseSoFar, serves_from}
use Rattle.channel_model.specs.Setting.{Setting}
use Rattle.channel_model.proofs.Theorems.{so_far_nearly, so_far_reads}
use Rattle.channel_progress.specs.Waking.{NoWaitFailed}
use Rattle.channel_progress.proofs.Theorems.{not_failed}
use Rattle.event_runner.proofs.Theorems.{told_as}
use Rattle.item_list.specs.declared.no_memory.NoMemory.{NoMemory}
use Rattle.net_addr.specs.declared.addr.ServerAddr.{ServerAddr}
use Rattle.net_world.specs.Cause.{Rose}
use Rattle.net_world.specs.declared.log.WorldCall.{WorldCall}
use Rattle.owner_laws.proofs.ListLemmas.{log_same}
use Rattle.owner_laws.proofs.Waits.{last_failed, unbegun_waits}
use Rattle.resolv_options.specs.Values.{OptionValues}
use Rattle.run_end.specs.declared.ended.Ended.{Ended}
use Rattle.run_end.specs.declared.loop_end.LoopEnd.{LoopEnd}
use Rattle.run_end.specs.declared.loop_end.LoopEnd.TheVariants.{Completed as HasCompleted, Stalled as HasStalled, WaitFault as HasFailed}
use Rattle.shared_channel.specs.declared.finishing.Finished.{Finished}
use Rattle.shared_session.specs.Seats.{seats_for}
use Rattle.shared_session.specs.Session.{ComesTo, IsOverAtClosing, IsSession, TellsSome, last_at as last_of}
use Rattle.shared_session.specs.declared.task.SessionEnd.{SessionEnd}
use Rattle.shared_session.specs.declared.task.SessionEnd.TheVariants.{Completed, OutOfMemory as NoneLeft, Stalled, WaitFault}
use Rattle.tool_line.specs.Outside.{Outside, OutputTold}
use Rattle.tool_line.specs.Put.{PutsText}
use Rattle.tool_line.specs.declared.ending.Exit.TheVariants.{OutOfMemory, Stalled as Stalls, WaitFault as FailedWait}
use Rattle.turner_laws.specs.Traffic.{IsTrafficBeside}
use Rattle.worker_session.specs.Turning.{longest_pause}
use Rattle.worker_session.specs.declared.coming.Coming.TheVariants.{OutOfMemory as WantedMemory, WaitFault as WaitFailed}
use Rattle.ahost_tool.specs.Asked.{Asked}
use Rattle.ahost_tool.specs.Page.{text_at}
use Rattle.owner_session.specs.Promise.{last_at}
use Rattle.ahost_tool.specs.declared.reporting.Report.{Report}
use Rattle.ahost_tool.proofs.Theorems.{complete_of}
use Rattle.owner_session.proofs.Theorems.{Came, bad_of, came, end_known, good_of, last_other, last_page, page_of_end, paged, served_ok, unlost, wait_of}
use Rattle.run_end.specs.Ends.{IsPageEnd}
use Rattle.run_end.specs.Left.{IsOver}
use Rattle.ahost_workers.specs.Ends.{ComesAs, IsTurnsEnd}
use Rattle.ahost_workers.specs.Promise.{ComesToEnd, PromiseWith}
use Rattle.ahost_workers.specs.Putting.{PutsReport}
use Rattle.ahost_workers.proofs.CallsLemmas.{called_once}
use Rattle.ahost_workers.proofs.ObeyLemmas.{closing_few, obeyed_later}

-- what holds of a value if there is one holds of the one that there is
pub some_of : {T : Type 0} (holds : T → Type 0) (found : Option T) (item : T) → found ≡ Some item → IfSome found holds → holds item
some_of holds found item is h = subst (λ x. IfSome x holds) is h

-- ---- how a session ended, by how its turns did

completed_of : (end : SessionEnd) (outcome : Result LoopEnd NoMemory) → IsTurnsEnd end outcome → outcome ≡ Ok HasCompleted → end ≡ Completed
completed_of Completed outcome is same = refl
completed_of WaitFault outcome is same = absurd (let h = sym is ∙ same in cc h)
completed_of Stalled outcome is same = absurd (let h = sym is ∙ same in cc h)
completed_of NoneLeft outcome is same = absurd (let h = sym is.1 ∙ same in cc h)

failed_of : (end : SessionEnd) (outcome : Result LoopEnd NoMemory) → IsTurnsEnd end outcome → outcome ≡ Ok HasFailed → end ≡ WaitFault
failed_of Completed outcome is same = absurd (let h = sym is ∙ same in cc h)
failed_of WaitFault outcome is same = refl
failed_of Stalled outcome is same = absurd (let h = sym is ∙ same in cc h)
failed_of NoneLeft outcome is same = absurd (let h = sym is.1 ∙ same in cc h)

stalled_of : (end : SessionEnd) (outcome : Result LoopEnd NoMemory) → IsTurnsEnd end outcome → outcome ≡ Ok HasStalled → end ≡ Stalled
stalled_of Completed outcome is same = absurd (let h = sym is ∙ same in cc h)
stalled_of WaitFault outcome is same = absurd (let h = sym is ∙ same in cc h)
stalled_of Stalled outcome is same = refl
stalled_of NoneLeft outcome is same = absurd (let h = sym is.1 ∙ same in cc h)

served_of : (end : SessionEnd) (outcome : Result LoopEnd NoMemory) → IsTurnsEnd end outcome → (e : LoopEnd) × (outcome ≡ Ok e) → end ≢ NoneLeft
served_of Completed outcome is served same = absurd (cc same)
served_of WaitFault outcome is served same = absurd (cc same)
served_of Stalled outcome is served same = absurd (cc same)
served_of NoneLeft outcome is served same = absurd (let h = sym is.1 ∙ served.1 in cc h)

-- no command is performed behind the journal's end
last_few : (end : SessionEnd) (journal : List Entry) → last_of end journal ≤ length journal
last_few Completed journal = closing_few journal
last_few WaitFault journal = omega arith
last_few Stalled journal = omega arith
last_few NoneLeft journal = omega arith

-- a count that stops at a limit and is 0 counts nothing
counts_none : (count total limit : ℕ) → 1 ≤ limit → min count limit ≡ min total limit → count ≡ 0 → total ≡ 0
counts_none count total limit some is none = omega (arith, some, is, none)

-- ---- a stalled run's line, or a report

stalled_put : (report : Report) (options : OptionValues) (journal : List Entry) (calls : List Answer) (status : ℕ) (before after : OutputTold) → ¬ Rose before.faults after.faults →
    PutsText (text_at report options journal calls Stalls) Stalls status before after → ComesToEnd report options (record { status = status; journal = journal; calls = calls }) before after
stalled_put report options journal calls status before after quiet (inl whole) = inr whole.0
stalled_put report options journal calls status before after quiet (inr (inl part)) = absurd (quiet part.1)
stalled_put report options journal calls status before after quiet (inr (inr none)) = inl (inr none.0)

module _ (workers turns : ℕ) (asked : Asked) (setting : Setting) (end : SessionEnd) (finished : Finished KeptJournal) (log_old log_new : Option (List WorldCall))
    (s : IsSession (λ (kept : KeptJournal). kept.entries.items) setting asked.askings asked.orders asked.later workers turns end finished log_old log_new)
    (ended : Ended) (before after : OutputTold) (p : PutsReport setting.options asked.report end finished.journal.entries.items finished.lost finished.calls ended before after)
    (waits_old waits_new : ℕ) (rose : end ≡ WaitFault → Rose waits_old waits_new) where
  abbrev journal : List Entry
  journal = finished.journal.entries.items

  c : Came p.outcome finished.calls p.exit
  c = came p.outcome finished.lost finished.calls p.exit p.ends

  served : p.exit ≢ OutOfMemory → end ≢ NoneLeft
  served other = served_of end p.outcome p.turns (served_ok p.outcome finished.lost finished.calls p.exit p.ends other)

  page : IsPageEnd p.exit → end ≡ Completed
  page is = completed_of end p.outcome p.turns (page_of_end p.outcome finished.calls p.exit c is)

  waited : p.exit ≡ FailedWait → end ≡ WaitFault
  waited is = failed_of end p.outcome p.turns (wait_of p.outcome finished.calls p.exit c is)

  obeyed : ObeysOrders setting journal (seats_for workers) asked.orders (last_at p.exit journal) s.lost
  obeyed = by (paged p.outcome finished.calls p.exit c)
    where
      by : ((p.outcome ≡ Ok HasCompleted) × IsPageEnd p.exit) ⊎ (IsPageEnd p.exit → ⊥) → ObeysOrders setting journal (seats_for workers) asked.orders (last_at p.exit journal) s.lost
      by (inl is) =
          subst (λ last. ObeysOrders setting journal (seats_for workers) asked.orders last s.lost) (ap (λ e. last_of e journal) (page is.1) ∙ sym (last_page p.exit journal is.1)) s.obeyed
      by (inr other) =
          subst (λ last. ObeysOrders setting journal (seats_for workers) asked.orders last s.lost) (sym (last_other p.outcome finished.calls p.exit journal c other))
          (obeyed_later setting journal (seats_for workers) asked.orders (last_of end journal) (length journal) (last_few end journal) s.lost s.obeyed)

  over : IsPageEnd p.exit → IsOver setting (past_at journal (closing_position journal))
  over is = let at : IsOverAtClosing setting journal = s.complete (page is) in (at.none_pending, at.none_ready)

  comes : ComesAs p.exit s.coming
  comes = by c
    where
      at : (e : SessionEnd) → end ≡ e → ComesTo e s.coming
      at e is = subst (λ x. ComesTo x s.coming) is s.comes

      by : Came p.outcome finished.calls p.exit → ComesAs p.exit s.coming
      by (inl w) = subst (λ x. ComesAs x s.coming) (sym w.1) (at Completed (completed_of end p.outcome p.turns w.0))
      by (inr (inl w)) = subst (λ x. ComesAs x s.coming) (sym w.1) (at Completed (completed_of end p.outcome p.turns w.0))
      by (inr (inr (inl w))) = subst (λ x. ComesAs x s.coming) (sym w.1) (at WaitFault (failed_of end p.outcome p.turns w.0))
      by (inr (inr (inr (inl w)))) = subst (λ x. ComesAs x s.coming) (sym w.1) (at Stalled (stalled_of end p.outcome p.turns w.0))
      by (inr (inr (inr (inr w)))) = subst (λ x. ComesAs x s.coming) (sym w) tt

  -- where the run didn't end for a wait, and the output didn't fail
  abbrev Shown : Type 0
  Shown = ComesToEnd asked.report setting.options (record { status = ended.status; journal = journal; calls = finished.calls }) before after

  shown : ¬ Rose before.faults after.faults → (p.exit ≡ FailedWait → ⊥) → Shown
  shown quiet other = by c
    where
      complete : IsPageEnd p.exit ⊎ (p.exit ≡ OutOfMemory) → Shown
      complete is = inl (complete_of asked.report setting.options finished.calls journal p.exit ended.status before after p.put quiet is)

      by : Came p.outcome finished.calls p.exit → Shown
      by (inl w) = complete (inl (inl w.1))
      by (inr (inl w)) = complete (inl (inr w.1))
      by (inr (inr (inl w))) = absurd (other w.1)
      by (inr (inr (inr (inl w)))) =
          stalled_put asked.report setting.options journal finished.calls ended.status before after quiet
          (subst (λ e. PutsText (text_at asked.report setting.options journal finished.calls e) e ended.status before after) w.1 p.put.told)
      by (inr (inr (inr (inr w)))) = complete (inr w)

  -- a wait that failed shows in the calls
  untold_wait : (calls : List WorldCall) → IsTrafficBeside setting 0 asked.later turns s.coming journal calls → NoWaitFailed calls → p.exit ≡ FailedWait → ⊥
  untold_wait calls traffic none is =
      let failed : s.coming ≡ WaitFailed = subst (λ e. ComesTo e s.coming) (waited is) s.comes in
      not_failed calls none (last_failed calls (traffic.last_wait failed))

  kept : PromiseWith workers asked setting turns (record { status = ended.status; journal = journal; calls = finished.calls })
      (record { network = record { log = log_old; wait_faults = waits_old }; output = before })
      (record { network = record { log = log_new; wait_faults = waits_new }; output = after })
  kept = record {
    end = p.exit;
    ends = end_known p.outcome finished.lost finished.calls p.exit p.ends;
    lawful = s.lawful;
    seated = s.seated;
    asked_all = λ other. s.asked_all (served other);
    asked_at_most = s.asked_at_most;
    asked_first = s.asked_first;
    lost = s.lost;
    obeyed = obeyed;
    none_lost = λ other. counts_none finished.lost s.lost (2 ^ 64 - 1) (omega arith) s.counted (unlost p.outcome finished.lost finished.calls p.exit p.ends other);
    called_once = called_once setting journal finished.accepted finished.calls s.lawful s.accepted_are s.answers;
    called_with_fates = s.answers.fates;
    all_taken = (s.none_pending, s.none_ready);
    destroyed = λ some. s.destroyed;
    success = good_of p.outcome finished.calls p.exit c;
    failure = bad_of p.outcome finished.calls p.exit c;
    finished = over;
    wait_fault = λ is. rose (waited is);
    coming = s.coming;
    comes = comes;
    traffic = s.traffic;
    completes = λ calm quiet. shown quiet (λ is. calm (rose (waited is)));
    completes_told = told_as (IsTrafficBeside setting 0 asked.later turns s.coming journal) (λ calls. NoWaitFailed calls → ¬ Rose before.faults after.faults → Shown)
        (λ calls traffic none quiet. shown quiet (untold_wait calls traffic none)) log_old log_new s.traffic;
    put = p.put;
  }

  -- the promise is kept
  pub promise_of : PromiseWith workers asked setting turns ended
      (record { network = record { log = log_old; wait_faults = waits_old }; output = before })
      (record { network = record { log = log_new; wait_faults = waits_new }; output = after })
  promise_of =
      subst (λ j. PromiseWith workers asked setting turns (record { status = ended.status; journal = j; calls = ended.calls })
      (record { network = record { log = log_old; wait_faults = waits_old }; output = before }) (record { network = record { log = log_new; wait_faults = waits_new }; output = after })) (sym p.journal_is)
      (subst (λ cs. PromiseWith workers asked setting turns (record { status = ended.status; journal = journal; calls = cs })
      (record { network = record { log = log_old; wait_faults = waits_old }; output = before }) (record { network = record { log = log_new; wait_faults = waits_new }; output = after })) (sym p.calls_are) kept)

-- ---- a run that made no channel, for want of memory: its network was told some of its servers at most

-- nothing else was called
only_serves : (setting : Setting) (later : Option (List ServerAddr)) (turns : ℕ) (calls : List WorldCall) → IsPrefix calls (serves_from 0 setting.options.servers) → IsTrafficBeside setting 0 later turns WantedMemory [] calls
only_serves setting later turns calls first =
    let so_far : IsCourseSoFar setting 0 longest_pause [] calls 0 0 = inr (inr (record { told_so_far = first; no_turn = refl }, refl, refl)) in
    record {
      made = 0;
      few = omega arith;
      readings = so_far_reads setting 0 longest_pause [] calls 0 0 so_far ∙ omega arith;
      course = λ other. absurd (other refl);
      course_so_far = so_far;
      sets = λ other. absurd (other refl);
      sets_so_far = inr (omega arith, refl);
      agrees = λ other. absurd (other refl);
      nearly_agrees = so_far_nearly setting 0 longest_pause [] calls 0 0 so_far;
      waits = inl (unbegun_waits setting 0 longest_pause [] calls 0 refl so_far);
      last_wait = λ is. absurd (cc is);
      none_failed = λ other. unbegun_waits setting 0 longest_pause [] calls 0 refl so_far;
      stalled = λ is. absurd (cc is);
    }

-- the promise is kept
pub promise_unmade : (workers turns : ℕ) (asked : Asked) (setting : Setting) (log_old log_new : Option (List WorldCall)) (waits_old waits_new : ℕ) (output : OutputTold) → TellsSome setting.options.servers log_old log_new →
    PromiseWith workers asked setting turns (record { status = 5; journal = []; calls = [] })
    (record { network = record { log = log_old; wait_faults = waits_old }; output = output })
    (record { network = record { log = log_new; wait_faults = waits_new }; output = output })
promise_unmade workers turns asked setting log_old log_new waits_old waits_new output tells = record {
  end = OutOfMemory;
  ends = inr (inr (inr refl));
  lawful = record { allowed = tt };
  seated = refl;
  asked_all = λ other. absurd (other refl);
  asked_at_most = (asked.askings, refl);
  asked_first = record { asking = []; behind = []; parts = refl; asks_only = refl; none_behind = refl };
  lost = 0;
  obeyed = record { performances = []; requests_are = refl; performed = tt; givers = refl; lost_are = refl };
  none_lost = λ other. refl;
  called_once = λ request. refl;
  called_with_fates = tt;
  all_taken = (refl, refl);
  destroyed = λ some. absurd (some refl);
  success = λ is. absurd (cc is);
  failure = λ is. absurd (cc is);
  finished = λ page. (refl, refl);
  wait_fault = λ is. absurd (cc is);
  coming = WantedMemory;
  comes = tt;
  traffic = told_as (λ calls. IsPrefix calls (serves_from 0 setting.options.servers)) (IsTrafficBeside setting 0 asked.later turns WantedMemory []) (only_serves setting asked.later turns) log_old log_new tells;
  completes = λ calm quiet. inl (inr refl);
  completes_told = told_as (λ calls. IsPrefix calls (serves_from 0 setting.options.servers))
      (λ calls. NoWaitFailed calls → ¬ Rose output.faults output.faults → ComesToEnd asked.report setting.options (record { status = 5; journal = []; calls = [] }) output output)
      (λ calls first none quiet. inl (inr refl)) log_old log_new tells;
  put = record { told = (refl, (refl, refl)); counted = omega arith };
}

-- the same before the network was called
pub promise_early : (workers turns : ℕ) (asked : Asked) (setting : Setting) (outside : Outside) → PromiseWith workers asked setting turns (record { status = 5; journal = []; calls = [] }) outside outside
promise_early workers turns asked setting outside =
    promise_unmade workers turns asked setting outside.network.log outside.network.log outside.network.wait_faults outside.network.wait_faults outside.output
    (log_same (λ calls. IsPrefix calls (serves_from 0 setting.options.servers)) (serves_from 0 setting.options.servers, refl) outside.network.log)
