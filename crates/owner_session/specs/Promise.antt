-- What a session promises: one journal orders what happened in its channel, and what it asked, sent and called follows from that journal.
use Rattle.std.specs.List.{AllByRecursion, list_all}
use Rattle.std.specs.Prelude.{IsFalse, IsTrue, List, Option, Some, [], count_by, length, map, ℕ, ◌*◌, ◌+◌, ◌<◌, ◌==◌, ◌≡◌, ◌≢◌, ◌≤◌, ◌⊎◌}
use mathlib.Core.List.{IsPrefix}
use Rattle.chan_types.specs.declared.journal.Entry.{Entry}
use Rattle.net_world.specs.Cause.{Rose}
use Rattle.net_world.specs.declared.log.WorldCall.{WorldCall}
use Rattle.channel_model.specs.Commands.{ObeysOrders, accepted_for, closing_position, past_at}
use Rattle.channel_model.specs.Completion.{fate, occurrences, pending, requests, taken}
use Rattle.channel_model.specs.Course.{IsCourse, IsCourseSoFar}
use Rattle.channel_model.specs.CutShort.{NearlyAgrees}
use Rattle.channel_model.specs.Endings.{turns_in}
use Rattle.channel_model.specs.Journal.{is_destroy, past_of}
use Rattle.channel_model.specs.Lawful.{IsLawful}
use Rattle.channel_model.specs.Setting.{Setting}
use Rattle.channel_model.specs.Stretch.{beginning}
use Rattle.channel_model.specs.Traffic.{TrafficAgrees}
use Rattle.channel_model.specs.Turn.{received_in}
use Rattle.channel_progress.specs.Allowed.{attempts_allowed}
use Rattle.channel_progress.specs.Waking.{NoWaitFailed, WakesInTime}
use Rattle.net_world.specs.Logs.{LogGets}
use Rattle.net_addr.specs.declared.addr.ServerAddr.{ServerAddr}
use Rattle.tool_line.specs.declared.ending.Exit.{Exit}
use Rattle.tool_line.specs.declared.ending.Exit.TheVariants.{Failure, FileFault, OutOfMemory, SinkFault, Stalled, Success, Usage, WaitFault}
use Rattle.run_end.specs.Left.{IsOver}
use Rattle.run_end.specs.Ends.{AreGood, IsPageEnd, IsRunEnd}
use Rattle.owner_session.specs.Kinds.{has_servers, is_ruled}
use Rattle.owner_session.specs.Session.{AsksFirst, SetsAtMost, SetsBehindFirst}
use Rattle.owner_laws.specs.Sessions.{BeginsCut, BeginsPending, EndsWithFailedWait, longest_slice}
use Rattle.owner_session.specs.Asked.{AreSilent, Task}
use Rattle.owner_session.specs.Closing.{EndsClosed}
use Rattle.owner_session.specs.declared.session_end.SessionEnd.{SessionEnd}
use Rattle.tool_line.specs.Outside.{NetworkTold}

-- the last position at which a command may be performed: where its turns were completed, that of the closing Destroy, if a callback hasn't destroyed the channel; else the journal's end
abbrev pub last_at : Exit → List Entry → ℕ
last_at Success journal = closing_position journal
last_at Failure journal = closing_position journal
last_at Usage journal = length journal
last_at FileFault journal = length journal
last_at SinkFault journal = length journal
last_at OutOfMemory journal = length journal
last_at WaitFault journal = length journal
last_at Stalled journal = length journal

-- what a session that came to this end called of the network
pub record IsTraffic (setting : Setting) (later : Option (List ServerAddr)) (turns : ℕ) (end : Exit) (journal : List Entry) (calls : List WorldCall) : Type 0 where
  -- It made so many turns, which are not more than it may make, and in each it read the clock once.
  pub made : ℕ
  pub few : made ≤ turns
  pub readings : turns_in calls ≡ made
  -- Journal and calls fall into these turns: the servers of the setting are told before the first, nothing waits before it, and between two there is one wait, up to the first deadline, where there is nothing to do, or none where there is something. Want of memory alone cuts this short.
  pub course : end ≢ OutOfMemory → IsCourse setting 0 longest_slice journal calls made 0
  -- The later servers, if there are some, are set behind the first turn and before the second, unless the channel was destroyed before that; or memory was wanting, no second turn was made, and none were set.
  pub sets_behind : SetsBehindFirst setting later made journal calls ⊎ ((end ≡ OutOfMemory) × (made ≤ 1) × IsFalse (has_servers journal))
  pub course_so_far : IsCourseSoFar setting 0 longest_slice journal calls made 0
  -- A first turn is made only where a request is pending, and nothing is ready; where memory was wanting it may be the only one, and cut short.
  pub begins : 1 ≤ made → BeginsPending setting journal calls ⊎ ((end ≡ OutOfMemory) × BeginsCut setting journal calls)
  -- So what the journal notes of messages, queries, links and faults is what these calls tell; where memory was wanting, but for one call.
  pub agrees : end ≢ OutOfMemory → TrafficAgrees setting 0 journal calls
  pub nearly_agrees : NearlyAgrees setting 0 beginning journal calls
  -- No call is made behind a wait that failed, and one failed only where the run ended for it, or where memory was wanting.
  pub waits : NoWaitFailed calls ⊎ EndsWithFailedWait calls
  pub last_wait : end ≡ WaitFault → EndsWithFailedWait calls
  pub none_failed : end ≢ WaitFault → end ≢ OutOfMemory → NoWaitFailed calls
  -- A run ends as stalled only where all turns were made.
  pub all_turns : end ≡ Stalled → made ≡ turns

-- a run is given more turns than two for each attempt that its requests may spend and one for each item that was received, over a network that wakes in time and whose waits don't fail
pub record IsGivenTime (setting : Setting) (turns : ℕ) (journal : List Entry) (calls : List WorldCall) : Type 0 where
  pub enough : 2 * attempts_allowed setting journal + received_in calls < turns
  pub wakes : WakesInTime calls
  pub waited : NoWaitFailed calls

-- what a session promises that has to do this over a channel of this setting, in at most so many turns
pub record SessionPromise {B : Type 0} (task : Task) (setting : Setting) (turns : ℕ) (ended : SessionEnd B) (before after : NetworkTold) : Type 0 where
  pub ends : IsRunEnd ended.end
  -- One journal orders what happened: each of its entries may stand where it stands.
  pub lawful : IsLawful setting ended.journal
  -- All entries are of the channel's one seat, and none cancels that no callback commanded.
  pub ruled : IsTrue (list_all is_ruled ended.journal)
  -- The requests were accepted that were asked, in order, each with the script of its callback, unless memory was wanting; and no other but on a callback's command.
  pub asked_all : ended.end ≢ OutOfMemory → accepted_for 0 ended.journal ≡ task.askings
  pub asked_at_most : IsPrefix (accepted_for 0 ended.journal) task.askings
  -- They were accepted before anything else was done.
  pub asked_first : AsksFirst ended.journal
  -- What the callbacks of the taken requests command was performed, on their command and by the orders; where the turns were completed, none of it behind the closing Destroy. Requests are lost only where memory was wanting.
  pub lost : ℕ
  pub obeyed : ObeysOrders setting ended.journal 1 task.orders (last_at ended.end ended.journal) lost
  pub none_lost : ended.end ≢ OutOfMemory → lost ≡ 0
  -- Callbacks that command nothing make no entry, and lose no request.
  pub silent : AreSilent task.askings → IsTrue (list_all (λ entry. entry.by == 0) ended.journal) × (lost ≡ 0)
  -- Callbacks were called in the order in which their requests were taken: that of each accepted request once, with its fate.
  pub called : map (λ answer. answer.number) ended.calls ≡ taken (past_of ended.journal)
  pub called_once : (request : ℕ) → occurrences request (map (λ answer. answer.number) ended.calls) ≡ occurrences request (requests (past_of ended.journal))
  pub called_with_fates : AllByRecursion (λ answer. fate setting answer.number (past_of ended.journal) ≡ Some answer) ended.calls
  -- Nothing is pending and nothing ready at the journal's end: what was accepted has completed, and was taken.
  pub all_taken : IsOver setting (past_of ended.journal)
  -- The channel was destroyed once, and closed behind all turns.
  pub destroyed : count_by (λ entry. is_destroy entry.what) ended.journal ≡ 1
  pub closed : EndsClosed ended.journal
  -- All requests ended well, or one otherwise.
  pub success : ended.end ≡ Success → AreGood ended.calls
  pub failure : ended.end ≡ Failure → ¬ AreGood ended.calls
  -- Where the turns were completed, nothing was cut short: nothing was pending and nothing ready at the closing Destroy.
  pub finished : IsPageEnd ended.end → IsOver setting (past_at ended.journal (closing_position ended.journal))
  -- A session ends for a wait only where a wait of the network failed in it.
  pub wait_fault : ended.end ≡ WaitFault → Rose before.wait_faults after.wait_faults
  -- It ends as stalled only where a request was pending at the closing Destroy, and all turns were made, which the network's calls tell.
  pub stalled : ended.end ≡ Stalled → pending setting (past_at ended.journal (closing_position ended.journal)) ≢ []
  -- Servers were set at most once, on nobody's command, and then they are the later ones.
  pub sets : SetsAtMost setting task.later ended.journal
  -- Where the network tells its calls, those of this session are its servers, turns and waits, and the journal notes what they tell. Where no request of a callback was lost, a wait failed only where the session ended for it.
  pub traffic : LogGets (λ calls. IsTraffic setting task.later turns ended.end ended.journal calls × (lost ≡ 0 → ended.end ≢ WaitFault → NoWaitFailed calls)) before.log after.log
  -- A session that is given time completes its requests, unless memory is wanting.
  pub completes : LogGets (λ calls. IsGivenTime setting turns ended.journal calls → IsPageEnd ended.end ⊎ (ended.end ≡ OutOfMemory)) before.log after.log
