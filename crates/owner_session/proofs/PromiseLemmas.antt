-- The whole promise of a session: of its requests, turns and deliveries, and of the closing behind them.
use Rattle.std.proofs.Common.{◌≡◌, ◌≢◌, ◌∙◌, ℕ, ◌-◌, ◌^◌, ◌≤◌, Bool, true, false, not, cond, min, List, [], ◌∷◌, ◌++◌, length, refl, sym, ap, subst, inl, inr, ⊎_elim, arith}
use Rattle.std.specs.Prelude.{Ok, Option, Result, Some, count_by, ◌⊎◌}
use Rattle.std.specs.List.{AllByRecursion, list_all}
use Rattle.std.proofs.lemmas.Bool.{and_from}
use Rattle.std.proofs.lemmas.List.{append-nil, append_assoc}
use Rattle.std.proofs.lemmas.List.Folds.{list_all-append}
use mathlib.Core.List.{IsPrefix}
use Rattle.chan_types.specs.declared.journal.Entry.{Entry}
use Rattle.chan_types.specs.declared.journal.What.TheVariants.{Destroy}
use Rattle.item_list.specs.declared.no_memory.NoMemory.{NoMemory}
use Rattle.net_world.specs.Cause.{Rose}
use Rattle.net_world.specs.declared.log.WorldCall.{WorldCall}
use Rattle.channel_model.specs.Commands.{ObeysOrders, accepted_for, closing_position, past_at}
use Rattle.channel_model.specs.Completion.{completed_at, fate, occurrences, pending, ready}
use Rattle.channel_model.specs.Course.{has_no_turn, is_of_turn}
use Rattle.channel_model.specs.Journal.{followed_by, is_destroy, is_destroyed, past_of}
use Rattle.channel_model.specs.Lawful.{IsLawful}
use Rattle.channel_model.specs.Setting.{Setting}
use Rattle.channel_model.proofs.Theorems.{destroy_completes, past_of-push}
use Rattle.channel_progress.specs.Waking.{NoWaitFailed}
use Rattle.channel_table.specs.Calling.{Owned}
use Rattle.event_runner.proofs.Theorems.{told_as}
use Rattle.tool_line.specs.declared.ending.Exit.{Exit}
use Rattle.tool_line.specs.declared.ending.Exit.TheVariants.{OutOfMemory, WaitFault as FailedWait}
use Rattle.run_end.specs.Ends.{IsPageEnd}
use Rattle.owner_session.specs.Closing.{Closes, EndsClosed, closing}
use Rattle.owner_session.specs.Delivering.{IsIdle}
use Rattle.owner_session.specs.Ends.{IsEndOf}
use Rattle.owner_session.specs.Kinds.{has_servers, is_ruled, is_servers}
use Rattle.owner_session.specs.Promise.{IsGivenTime, IsTraffic, SessionPromise, last_at}
use Rattle.owner_session.specs.Asked.{AreSilent, Task}
use Rattle.chan_types.specs.Plans.{stop}
use Rattle.owner_session.specs.declared.session_end.SessionEnd.{SessionEnd}
use Rattle.owner_session.specs.Session.{AsksFirst, FallsIntoTurns, HasObeyed, IsSession, SetsAtMost}
use Rattle.owner_session.specs.declared.caller.Caller.{Caller}
use Rattle.run_end.specs.declared.loop_end.LoopEnd.{LoopEnd}
use Rattle.run_end.specs.declared.loop_end.LoopEnd.TheVariants.{Completed, Stalled, WaitFault}
use Rattle.seat_laws.proofs.DestroyLemmas.{destroyed_once, destroys_counted}
use Rattle.owner_session.proofs.ClosingLemmas.{deliveries, destroy_destroys, destroy_is}
use Rattle.ticket_delivery.proofs.Theorems.{destroyed_later, destroyed_pending}
use Rattle.owner_session.proofs.EndLemmas.{Came, accepted_full, accepted_part, bad_of, came, comes_to_end, end_known, good_of, last_other, last_page, page_of_end, paged, served_ok, stall_of, traffic_of, unfailed, unlost, wait_of}
use Rattle.owner_session.proofs.FinalLemmas.{Behind, before_closing, closing_is, none_delivered, taken_once_each}
use Rattle.owner_session.proofs.KeptLemmas.{dones, kept_more}
use Rattle.owner_session.proofs.ListLemmas.{any_of, each_front}
use Rattle.owner_session.proofs.MoveLemmas.{MovesQuietly, quiet_all}
use Rattle.owner_session.proofs.SilentLemmas.{accepted_parts}
use Rattle.owner_session.proofs.ObeyLemmas.{is_plain, obeyed_more, past_on}
use Rattle.owner_session.proofs.ThenLemmas.{at_most_more}
use Rattle.run_end.specs.Left.{IsOver, LeavesPending}

-- what the owner's destroy adds to a journal: the closing entry, or nothing where the channel was destroyed
pub record Ends (mid d : Owned) : Type 0 where
  pub more : List Entry
  pub seen : d.seen ≡ mid.seen ++ more
  -- it is the closing entry, or the channel was destroyed before
  pub which : ((more ≡ closing ∷ []) × (is_destroyed (past_of mid.seen) ≡ false)) ⊎ ((more ≡ []) × (is_destroyed (past_of mid.seen) ≡ true))

pub ends_of : (mid d : Owned) → ((is_destroyed (past_of mid.seen) ≡ false) × (d.seen ≡ mid.seen ++ closing ∷ [])) ⊎ ((is_destroyed (past_of mid.seen) ≡ true) × (d ≡ mid)) → Ends mid d
ends_of mid d (inl first) = record { more = closing ∷ []; seen = first.1; which = inl (refl, first.0) }
ends_of mid d (inr later) = record { more = []; seen = ap (λ o. o.seen) later.1 ∙ sym (append-nil mid.seen); which = inr (refl, later.0) }

module _ (mid d : Owned) (e : Ends mid d) where
  -- such entries take and accept nothing, and are ruled; no turn makes them, and they set no servers
  pub ends_are : (test : List Entry → Bool) → (b : Bool) → test (closing ∷ []) ≡ b → test [] ≡ b → test e.more ≡ b
  ends_are test b one none = by e.which
    where
      by : ((e.more ≡ closing ∷ []) × (is_destroyed (past_of mid.seen) ≡ false)) ⊎ ((e.more ≡ []) × (is_destroyed (past_of mid.seen) ≡ true)) → test e.more ≡ b
      by (inl is) = ap test is.0 ∙ one
      by (inr is) = ap test is.0 ∙ none

  pub ends_asked : accepted_for 0 e.more ≡ []
  ends_asked = by e.which
    where
      by : ((e.more ≡ closing ∷ []) × (is_destroyed (past_of mid.seen) ≡ false)) ⊎ ((e.more ≡ []) × (is_destroyed (past_of mid.seen) ≡ true)) → accepted_for 0 e.more ≡ []
      by (inl is) = ap (accepted_for 0) is.0
      by (inr is) = ap (accepted_for 0) is.0

  -- the closing entry is first behind the session, or nothing is there
  ends_behind : (rest : List Entry) → (e.more ≡ [] → rest ≡ []) → Behind (e.more ++ rest)
  ends_behind rest none = by e.which
    where
      by : ((e.more ≡ closing ∷ []) × (is_destroyed (past_of mid.seen) ≡ false)) ⊎ ((e.more ≡ []) × (is_destroyed (past_of mid.seen) ≡ true)) → Behind (e.more ++ rest)
      by (inl is) = subst (λ m. Behind (m ++ rest)) (sym is.0) (inl (rest, refl))
      by (inr is) = subst (λ m. Behind (m ++ rest)) (sym is.0) (inr (none is.0))

  -- where nothing was pending and nothing ready, nothing is ready then
  ends_ready : (setting : Setting) → pending setting (past_of mid.seen) ≡ [] → ready setting (past_of mid.seen) ≡ [] → ready setting (past_of d.seen) ≡ []
  ends_ready setting none_pending none_ready = by e.which
    where
      by : ((e.more ≡ closing ∷ []) × (is_destroyed (past_of mid.seen) ≡ false)) ⊎ ((e.more ≡ []) × (is_destroyed (past_of mid.seen) ≡ true)) → ready setting (past_of d.seen) ≡ []
      by (inl is) =
          ap (λ j. ready setting (past_of j)) (e.seen ∙ ap (λ m. mid.seen ++ m) is.0) ∙ ap (ready setting) (past_of-push mid.seen closing)
          ∙ ap (λ ns. ns ++ completed_at setting Destroy (past_of mid.seen)) none_ready ∙ destroy_completes setting (past_of mid.seen) ∙ none_pending
      by (inr is) = ap (λ j. ready setting (past_of j)) (e.seen ∙ ap (λ m. mid.seen ++ m) is.0 ∙ append-nil mid.seen) ∙ none_ready

-- a count that stops at a limit and is 0 counts nothing
counts_none : (count total limit : ℕ) → 1 ≤ limit → min count limit ≡ min total limit → count ≡ 0 → total ≡ 0
counts_none count total limit some is none = omega (arith, some, is, none)

-- a list that goes on with nothing
rest_none : (xs ys : List Entry) → xs ++ ys ≡ xs → ys ≡ []
rest_none [] ys is = is
rest_none (x ∷ xs) ys is = rest_none xs ys (let h : x ∷ (xs ++ ys) ≡ x ∷ xs = is in cc)

module _ {B : Type 0} (task : Task) (setting : Setting) (turns : ℕ) (result : Result LoopEnd NoMemory) (a mid fin : Caller B) (log_old log_new : Option (List WorldCall))
    (same : a.alone.setting ≡ setting) (orders_are : a.hand.orders ≡ task.orders) (s : IsSession task.askings task.later turns result a mid log_old log_new) (f : Closes mid fin)
    (servers : 1 ≤ length setting.options.servers) (tries : 1 ≤ setting.options.tries) where
  abbrev d : Owned
  d = f.destroyed

  abbrev at_d : Caller B
  at_d = record mid { alone = d }

  mid_setting : mid.alone.setting ≡ setting
  mid_setting = s.setting ∙ same

  mid_orders : mid.hand.orders ≡ task.orders
  mid_orders = ap (λ hand. hand.orders) s.hand ∙ orders_are

  idle_d : IsIdle at_d
  idle_d = record { no_command = s.kept.0.no_command; own_voice = f.destroys.desk.voice ∙ s.kept.0.own_voice }

  q : MovesQuietly at_d fin
  q = quiet_all at_d fin idle_d f.delivered

  e : Ends mid.alone d
  e = ends_of mid.alone d (destroy_is f.is_first mid.alone d f.destroys)

  abbrev more : List Entry
  more = e.more ++ q.0.since

  fin_seen : fin.alone.seen ≡ mid.alone.seen ++ more
  fin_seen = q.0.seen ∙ ap (λ l. l ++ q.0.since) e.seen ∙ append_assoc mid.alone.seen e.more q.0.since

  fin_setting : fin.alone.setting ≡ setting
  fin_setting = q.0.setting ∙ f.destroys.desk.setting ∙ mid_setting

  fin_orders : fin.hand.orders ≡ task.orders
  fin_orders = ap (λ hand. hand.orders) q.0.hand ∙ mid_orders

  kept_d : HasObeyed d.setting d.seen mid.hand.orders mid.calls mid.lost
  kept_d =
      subst (λ k. HasObeyed k d.seen mid.hand.orders mid.calls mid.lost) (sym f.destroys.desk.setting)
      (subst (λ j. HasObeyed mid.alone.setting j mid.hand.orders mid.calls mid.lost) (sym e.seen)
      (kept_more mid.alone.setting mid.alone.seen mid.hand.orders mid.calls mid.lost s.kept.1 e.more
      (subst (IsLawful mid.alone.setting) e.seen (subst (λ k. IsLawful k d.seen) f.destroys.desk.setting f.destroys.lawful))
      (ends_are mid.alone d e (list_all is_plain) true refl refl) (ends_are mid.alone d e (list_all is_ruled) true refl refl)))

  kept_fin : HasObeyed fin.alone.setting fin.alone.seen fin.hand.orders fin.calls fin.lost
  kept_fin = q.0.kept kept_d

  none_turn : has_no_turn more ≡ true
  none_turn =
      list_all-append (λ entry. not (is_of_turn entry)) e.more q.0.since
      ∙ and_from (has_no_turn e.more) (has_no_turn q.0.since) (ends_are mid.alone d e has_no_turn true refl refl) q.1

  unset : has_servers more ≡ false
  unset = any_of (λ entry. is_servers entry.what) e.more q.0.since (ends_are mid.alone d e has_servers false refl refl) q.2

  lawful : IsLawful setting fin.alone.seen
  lawful = subst (λ k. IsLawful k fin.alone.seen) fin_setting kept_fin.lawful

  fin_past : past_of fin.alone.seen ≡ followed_by (past_of d.seen) q.0.since
  fin_past = ap past_of q.0.seen ∙ past_on d.seen q.0.since

  fin_destroyed : is_destroyed (past_of fin.alone.seen) ≡ true
  fin_destroyed = ap is_destroyed fin_past ∙ destroyed_later (past_of d.seen) q.0.since (destroy_destroys f.is_first mid.alone d f.destroys)

  none_pending : pending setting (past_of fin.alone.seen) ≡ []
  none_pending = subst (λ k. pending k (past_of fin.alone.seen) ≡ []) fin_setting f.none_pending

  none_ready : ready setting (past_of fin.alone.seen) ≡ []
  none_ready = subst (λ k. ready k (past_of fin.alone.seen) ≡ []) fin_setting f.none_ready

  -- ---- turns that were completed

  over : result ≡ Ok Completed → IsOver setting (past_of mid.alone.seen)
  over is =
      let left : LeavesPending mid.alone.setting (Ok Completed) (past_of mid.alone.seen) = subst (λ r. LeavesPending mid.alone.setting r (past_of mid.alone.seen)) is s.left in
      subst (λ k. IsOver k (past_of mid.alone.seen)) mid_setting (left.1, left.0)

  d_setting : d.setting ≡ setting
  d_setting = f.destroys.desk.setting ∙ mid_setting

  delivered_none : result ≡ Ok Completed → fin ≡ at_d
  delivered_none is =
      none_delivered at_d fin (subst (λ k. ready k (past_of d.seen) ≡ []) (sym d_setting) (ends_ready mid.alone d e setting (over is).0 (over is).1)) f.delivered

  since_none : result ≡ Ok Completed → q.0.since ≡ []
  since_none is = rest_none d.seen q.0.since (sym q.0.seen ∙ ap (λ c. c.alone.seen) (delivered_none is))

  behind_page : result ≡ Ok Completed → Behind more
  behind_page is = ends_behind mid.alone d e q.0.since (λ empty. since_none is)

  -- ---- turns that were used up

  left_pending : result ≡ Ok Stalled → pending setting (past_of mid.alone.seen) ≢ []
  left_pending is =
      let left : LeavesPending mid.alone.setting (Ok Stalled) (past_of mid.alone.seen) = subst (λ r. LeavesPending mid.alone.setting r (past_of mid.alone.seen)) is s.left in
      subst (λ k. pending k (past_of mid.alone.seen) ≢ []) mid_setting left.1

  behind_stalled : result ≡ Ok Stalled → Behind more
  behind_stalled is = ends_behind mid.alone d e q.0.since (λ empty. absurd (by empty e.which))
    where
      by : e.more ≡ [] → ((e.more ≡ closing ∷ []) × (is_destroyed (past_of mid.alone.seen) ≡ false)) ⊎ ((e.more ≡ []) × (is_destroyed (past_of mid.alone.seen) ≡ true)) → ⊥
      by empty (inl first) = absurd (let h : closing ∷ [] ≡ [] = sym first.0 ∙ empty in cc)
      by empty (inr later) =
          left_pending is (destroyed_pending setting (past_of mid.alone.seen) (subst (λ k. IsLawful k mid.alone.seen) mid_setting s.kept.1.lawful).allowed later.1)

  before : Behind more → past_at fin.alone.seen (closing_position fin.alone.seen) ≡ past_of mid.alone.seen
  before behind = ap (λ j. past_at j (closing_position j)) fin_seen ∙ before_closing mid.alone.seen more behind s.unclosed

  -- ---- what was asked

  none_asked : accepted_for 0 more ≡ []
  none_asked = accepted_parts 0 e.more q.0.since ∙ ap (λ xs. xs ++ accepted_for 0 q.0.since) (ends_asked mid.alone d e) ∙ q.0.asked_none

  asked_is : accepted_for 0 fin.alone.seen ≡ accepted_for 0 mid.alone.seen
  asked_is =
      ap (accepted_for 0) fin_seen ∙ accepted_parts 0 mid.alone.seen more ∙ ap (λ xs. accepted_for 0 mid.alone.seen ++ xs) none_asked ∙ append-nil (accepted_for 0 mid.alone.seen)

  asked_first : AsksFirst fin.alone.seen
  asked_first = record {
    asking = s.asked_first.asking;
    behind = s.asked_first.behind ++ more;
    parts = fin_seen ∙ ap (λ j. j ++ more) s.asked_first.parts ∙ append_assoc s.asked_first.asking s.asked_first.behind more;
    asks_only = s.asked_first.asks_only;
    none_behind = accepted_parts 0 s.asked_first.behind more ∙ ap (λ xs. xs ++ accepted_for 0 more) s.asked_first.none_behind ∙ none_asked;
  }

  -- ---- the callbacks, by the end

  abbrev Obeyed : Exit → Type 0
  Obeyed end =
      (lost : ℕ) × ObeysOrders setting fin.alone.seen 1 task.orders (last_at end fin.alone.seen) lost × (end ≢ OutOfMemory → lost ≡ 0)
      × (AreSilent (accepted_for 0 fin.alone.seen) → lost ≡ 0) × (lost ≡ 0 → fin.lost ≡ 0)

  obeyed_page : (end : Exit) → IsPageEnd end → result ≡ Ok Completed → (end ≢ OutOfMemory → fin.lost ≡ 0) → Obeyed end
  obeyed_page end page is unlost_ =
      let k = s.kept.1 in
      let at : last_at end fin.alone.seen ≡ length mid.alone.seen =
      last_page end fin.alone.seen page ∙ ap closing_position fin_seen ∙ closing_is mid.alone.seen more (behind_page is) s.unclosed in
      let plain : list_all is_plain more ≡ true = ap (λ l. list_all is_plain (e.more ++ l)) (since_none is) ∙ ap (list_all is_plain) (append-nil e.more) ∙ ends_are mid.alone d e (list_all is_plain) true refl refl in (
        k.total,
        subst (λ n. ObeysOrders setting fin.alone.seen 1 task.orders n k.total) (sym at)
            (subst (λ j. ObeysOrders setting j 1 task.orders (length mid.alone.seen) k.total) (sym fin_seen)
            (subst (λ o. ObeysOrders setting (mid.alone.seen ++ more) 1 o (length mid.alone.seen) k.total) mid_orders
            (subst (λ t. ObeysOrders t (mid.alone.seen ++ more) 1 mid.hand.orders (length mid.alone.seen) k.total) mid_setting
            (obeyed_more mid.alone.setting mid.alone.seen more mid.hand.orders (length mid.alone.seen) (length mid.alone.seen) k.total (omega arith) (omega arith)
            (dones mid.alone.setting mid.alone.seen mid.hand.orders mid.calls mid.lost k) plain k.obeyed)))),
        λ served. counts_none mid.lost k.total (2 ^ 64 - 1) (omega arith) k.total_is (sym (ap (λ c. c.lost) (delivered_none is)) ∙ unlost_ served),
        λ commands. (k.silent (subst AreSilent asked_is commands)).1,
        λ none. ap (λ c. c.lost) (delivered_none is) ∙ counts_none k.total mid.lost (2 ^ 64 - 1) (omega arith) (sym k.total_is) none,
      )

  obeyed_other : (end : Exit) → last_at end fin.alone.seen ≡ length fin.alone.seen → (end ≢ OutOfMemory → fin.lost ≡ 0) → Obeyed end
  obeyed_other end at unlost_ = (
    kept_fin.total,
    subst (λ n. ObeysOrders setting fin.alone.seen 1 task.orders n kept_fin.total) (sym at)
        (subst (λ o. ObeysOrders setting fin.alone.seen 1 o (length fin.alone.seen) kept_fin.total) fin_orders
        (subst (λ t. ObeysOrders t fin.alone.seen 1 fin.hand.orders (length fin.alone.seen) kept_fin.total) fin_setting kept_fin.obeyed)),
    λ served. counts_none fin.lost kept_fin.total (2 ^ 64 - 1) (omega arith) kept_fin.total_is (unlost_ served),
    λ commands. (kept_fin.silent commands).1,
    λ none. counts_none kept_fin.total fin.lost (2 ^ 64 - 1) (omega arith) (sym kept_fin.total_is) none,
  )

  obeyed_at : (end : Exit) → IsEndOf result fin.lost fin.calls end → Obeyed end
  obeyed_at end is = by (paged result fin.calls end c)
    where
      c : Came result fin.calls end
      c = came result fin.lost fin.calls end is

      by : ((result ≡ Ok Completed) × IsPageEnd end) ⊎ (IsPageEnd end → ⊥) → Obeyed end
      by (inl page) = obeyed_page end page.1 page.0 (unlost result fin.lost fin.calls end is)
      by (inr other) = obeyed_other end (last_other result fin.calls end fin.alone.seen c other) (unlost result fin.lost fin.calls end is)

  sets_at_most : SetsAtMost setting task.later fin.alone.seen
  sets_at_most = subst (SetsAtMost setting task.later) (sym fin_seen) (at_most_more setting task.later mid.alone.seen more unset (subst (λ k. SetsAtMost k task.later mid.alone.seen) mid_setting s.sets))

  destroyed_one : count_by (λ entry. is_destroy entry.what) fin.alone.seen ≡ 1
  destroyed_one =
      omega (arith, destroys_counted [] fin.alone.seen, destroyed_once setting (past_of fin.alone.seen) lawful.allowed ∙ ap (λ b. cond b 1 0) fin_destroyed)

  closed : EndsClosed fin.alone.seen
  closed = record {
    earlier = mid.alone.seen;
    closes = e.more;
    delivered = q.0.since;
    parts = fin_seen;
    of_session = s.unclosed;
    once = ⊎_elim (λ first. inl first.0) (λ later. inr later) e.which;
    deliveries = deliveries q.0.since q.0.asked_none q.0.of_session q.1 q.2;
  }

  -- the requests that were accepted have silent callbacks if all have
  asked_silent : AreSilent task.askings → AreSilent (accepted_for 0 fin.alone.seen)
  asked_silent commands =
      let first = accepted_part result task.askings (accepted_for 0 mid.alone.seen) s.asked in
      subst AreSilent (sym asked_is) (each_front (λ asking. asking.script.moves ≡ stop) (accepted_for 0 mid.alone.seen) first.0 (subst AreSilent (sym first.1) commands))

  pub promise_of : (ended : SessionEnd B) (waits_old waits_new : ℕ) → IsEndOf result fin.lost fin.calls ended.end → (result ≡ Ok WaitFault → Rose waits_old waits_new) →
      SessionPromise task setting turns (record ended { journal = fin.alone.seen; calls = fin.calls })
      (record { log = log_old; wait_faults = waits_old }) (record { log = log_new; wait_faults = waits_new })
  promise_of ended waits_old waits_new is rose =
      let end : Exit = ended.end in
      let c : Came result fin.calls end = came result fin.lost fin.calls end is in
      let callbacks : Obeyed end = obeyed_at end is in
      record {
        ends = end_known result fin.lost fin.calls end is;
        lawful = lawful;
        ruled = kept_fin.ruled;
        asked_all = λ served. let ok = served_ok result fin.lost fin.calls end is served in asked_is ∙ accepted_full result ok.0 task.askings (accepted_for 0 mid.alone.seen) ok.1 s.asked;
        asked_at_most = subst (λ xs. IsPrefix xs task.askings) (sym asked_is) (accepted_part result task.askings (accepted_for 0 mid.alone.seen) s.asked);
        asked_first = asked_first;
        lost = callbacks.0;
        obeyed = callbacks.1;
        none_lost = callbacks.2;
        silent = λ commands. ((kept_fin.silent (asked_silent commands)).0, callbacks.3 (asked_silent commands));
        called = kept_fin.called;
        called_once = λ request. ap (occurrences request) kept_fin.called ∙ taken_once_each setting (past_of fin.alone.seen) lawful.allowed none_pending none_ready request;
        called_with_fates = subst (λ k. AllByRecursion (λ answer. fate k answer.number (past_of fin.alone.seen) ≡ Some answer) fin.calls) fin_setting kept_fin.fates;
        all_taken = (none_pending, none_ready);
        destroyed = destroyed_one;
        closed = closed;
        success = good_of result fin.calls end c;
        failure = bad_of result fin.calls end c;
        finished = λ page. let done = page_of_end result fin.calls end c page in subst (IsOver setting) (sym (before (behind_page done))) (over done);
        wait_fault = λ wait. rose (wait_of result fin.calls end c wait);
        stalled = λ stall. let used = stall_of result fin.calls end c stall in subst (λ p. pending setting p ≢ []) (sym (before (behind_stalled used))) (left_pending used);
        sets = sets_at_most;
        traffic = told_as (FallsIntoTurns task.later turns result mid.alone) (λ cs. IsTraffic setting task.later turns end fin.alone.seen cs × (callbacks.0 ≡ 0 → end ≢ FailedWait → NoWaitFailed cs))
            (λ cs falls. (
              subst (λ j. IsTraffic setting task.later turns end j cs) (sym fin_seen) (traffic_of setting task.later turns result fin.calls end mid.alone more mid_setting none_turn unset c cs falls),
              λ none other. unfailed task.later turns result fin.calls end mid.alone cs (subst (λ n. IsEndOf result n fin.calls end) (callbacks.4 none) is) other falls,
            ))
            log_old log_new s.told;
        completes = told_as (FallsIntoTurns task.later turns result mid.alone) (λ cs. IsGivenTime setting turns fin.alone.seen cs → IsPageEnd end ⊎ (end ≡ OutOfMemory))
            (λ cs falls time. comes_to_end setting task.later turns result fin.calls end mid.alone more mid_setting servers tries
            (subst (λ k. IsLawful k mid.alone.seen) mid_setting s.kept.1.lawful) s.kept.1.ruled
            cs falls (subst (λ j. IsGivenTime setting turns j cs) fin_seen time) c)
            log_old log_new s.told;
      }
