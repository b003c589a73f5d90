-- What a run promises: one journal orders what happened in its channel, and what it asked, sent, called and put follows from that journal.
use Rattle.std.specs.List.{list_all}
use Rattle.std.specs.Prelude.{Bool, IsSomeAnd, IsTrue, List, Option, Some, [], is_some, map, not, ℕ, ◌*◌, ◌++◌, ◌+◌, ◌∷◌, ◌≡◌, ◌≢◌, ◌≤◌, ◌⊎◌}
use mathlib.Core.List.{IsPrefix}
use Rattle.chan_types.specs.declared.journal.Entry.{Entry}
use Rattle.chan_types.specs.declared.spec.Spec.{Spec}
use Rattle.net_world.specs.Cause.{Rose}
use Rattle.net_world.specs.declared.log.WorldCall.{WorldCall}
use Rattle.channel_model.specs.Commands.{ObeysOrders, closing_position, past_at}
use Rattle.channel_model.specs.Completion.{fate, pending, requests, taken_by}
use Rattle.channel_model.specs.Course.{IsCourse, IsCourseSoFar}
use Rattle.channel_model.specs.CutShort.{NearlyAgrees}
use Rattle.channel_model.specs.Endings.{turns_in}
use Rattle.channel_model.specs.Journal.{accepted, is_destroy, past_of}
use Rattle.channel_model.specs.Lawful.{IsLawful}
use Rattle.channel_model.specs.Setting.{Setting}
use Rattle.channel_model.specs.Stretch.{beginning}
use Rattle.channel_model.specs.Traffic.{TrafficAgrees}
use Rattle.channel_model.specs.Turn.{received_in}
use Rattle.channel_progress.specs.Allowed.{attempts_allowed}
use Rattle.channel_progress.specs.Waking.{NoWaitFailed, WakesInTime}
use Rattle.tool_line.specs.declared.ending.Exit.{Exit}
use Rattle.tool_line.specs.declared.ending.Exit.TheVariants.{Failure, OutOfMemory, Stalled, Success, WaitFault}
use Rattle.net_world.specs.Logs.{LogGets}
use Rattle.run_end.specs.Left.{IsOver}
use Rattle.adig_tool.specs.Entries.{first_request, is_own, no_orders}
use Rattle.owner_session.specs.Closing.{closing}
use Rattle.tool_line.specs.Outside.{GrowsBy, Outside, OutputTold}
use Rattle.adig_tool.specs.Output.{book_of, page_for, text_at}
use Rattle.tool_line.specs.Put.{IsPut}
use Rattle.tool_line.specs.Words.{Text}
use Rattle.owner_laws.specs.Sessions.{BeginsCut, BeginsPending, EndsWithFailedWait, longest_slice}
use Rattle.run_end.specs.Ends.{AreGood, IsPageEnd, IsRunEnd}
use Rattle.run_end.specs.declared.ended.Ended.{Ended}

-- the journal has one Destroy, which no callback commanded, and behind it nothing but Takes
pub record IsClosed (journal : List Entry) : Type 0 where
  pub earlier : List Entry
  pub later : List Entry
  pub parts : journal ≡ earlier ++ closing ∷ later
  pub open_before : IsTrue (list_all (λ entry. not (is_destroy entry.what)) earlier)
  pub takes_behind : IsTrue (list_all (λ entry. is_some (taken_by entry.what)) later)

-- what a run that came to this end called of the network
pub record IsTraffic (setting : Setting) (turns : ℕ) (end : Exit) (journal : List Entry) (calls : List WorldCall) : Type 0 where
  -- It made so many turns, which are not more than it may make, and in each it read the clock once.
  pub made : ℕ
  pub few : made ≤ turns
  pub readings : turns_in calls ≡ made
  -- Journal and calls fall into these turns: the servers of the setting are told before the first, nothing waits before it, and between two there is one wait, up to the first deadline, where there is nothing to do, or none where there is something. Want of memory alone cuts this short.
  pub course : end ≢ OutOfMemory → IsCourse setting 0 longest_slice journal calls made 0
  pub course_so_far : IsCourseSoFar setting 0 longest_slice journal calls made 0
  -- A first turn is made only where a request is pending, and nothing is ready; where memory was wanting it may be the only one, and cut short.
  pub begins : 1 ≤ made → BeginsPending setting journal calls ⊎ ((end ≡ OutOfMemory) × BeginsCut setting journal calls)
  -- So what the journal notes of messages, queries, links and faults is what these calls tell; where memory was wanting, but for one call.
  pub agrees : end ≢ OutOfMemory → TrafficAgrees setting 0 journal calls
  pub nearly_agrees : NearlyAgrees setting 0 beginning journal calls
  -- A run ends for a wait only where its last call is a wait that failed, and none before it failed; one that ends otherwise has no wait that failed.
  pub last_wait : end ≡ WaitFault → EndsWithFailedWait calls
  pub none_failed : end ≢ WaitFault → NoWaitFailed calls
  -- It ends as stalled only where all turns were made.
  pub all_turns : end ≡ Stalled → made ≡ turns

-- a run is given turns enough, two for each attempt that its request may spend, one for each item that was received, and four, over a network that wakes in time and whose waits don't fail
pub record IsGivenTime (setting : Setting) (turns : ℕ) (journal : List Entry) (calls : List WorldCall) : Type 0 where
  pub enough : 2 * attempts_allowed setting journal + received_in calls + 4 ≤ turns
  pub wakes : WakesInTime calls
  pub waited : NoWaitFailed calls

-- the whole page was put, with exit status 0 or 1; or memory was wanting, with 5
abbrev pub IsComplete : Option Text → ℕ → OutputTold → OutputTold → Type 0
IsComplete page status before after =
    (((status ≡ 0) ⊎ (status ≡ 1)) × IsSomeAnd page (GrowsBy before.bytes after.bytes)) ⊎ (status ≡ 5)

-- what a run promises that asks this of a channel of this setting, and puts its page, or where that is asked for its book
pub record Promise (spec : Spec) (as_book : Bool) (setting : Setting) (turns : ℕ) (ended : Ended) (before after : Outside) : Type 0 where
  -- How the run came to its end, before its text was put: the text is chosen by that, and the exit status.
  pub end : Exit
  pub ends : IsRunEnd end
  -- One journal orders what happened: each of its entries may stand where it stands.
  pub lawful : IsLawful setting ended.journal
  -- All entries are of the channel's one seat; no callback commanded one, none cancels, and none sets other servers.
  pub own : IsTrue (list_all is_own ended.journal)
  -- The request was accepted, with a callback that commands nothing, unless memory was wanting; and never another.
  pub asked : end ≢ OutOfMemory → accepted (past_of ended.journal) ≡ first_request spec ∷ []
  pub asked_at_most : IsPrefix (accepted (past_of ended.journal)) (first_request spec ∷ [])
  -- What the callbacks of the taken requests command was performed, none of it behind the closing Destroy, and no request was lost.
  pub obeyed : ObeysOrders setting ended.journal 1 no_orders (closing_position ended.journal) 0
  -- The callback of each accepted request was called once, with its fate.
  pub called_once : map Some ended.calls ≡ map (λ request. fate setting request (past_of ended.journal)) (requests (past_of ended.journal))
  -- Nothing is pending and nothing ready at the journal's end: what was accepted has completed, and was taken.
  pub all_taken : IsOver setting (past_of ended.journal)
  -- A channel that was made was destroyed once, and behind that nothing stands but Takes.
  pub destroyed : ended.journal ≢ [] → IsClosed ended.journal
  -- The request ended well, or otherwise.
  pub success : end ≡ Success → AreGood ended.calls
  pub failure : end ≡ Failure → ¬ AreGood ended.calls
  -- Where the text is the page, or a beginning of it, nothing was cut short: nothing was pending and nothing ready at the closing Destroy.
  pub finished : IsPageEnd end → IsOver setting (past_at ended.journal (closing_position ended.journal))
  -- A run ends for a wait only where a wait of the network failed in it.
  pub wait_fault : end ≡ WaitFault → Rose before.network.wait_faults after.network.wait_faults
  -- It ends as stalled only where a request was pending at the closing Destroy, and all turns were made, which the network's calls tell.
  pub stalled : end ≡ Stalled → pending setting (past_at ended.journal (closing_position ended.journal)) ≢ []
  -- Where the network tells its calls, those of this run are its servers, turns and waits, and the journal notes what they tell.
  pub traffic : LogGets (IsTraffic setting turns end ended.journal) before.network.log after.network.log
  -- A run that is given time comes to its page, where the output doesn't fail in it, unless memory is wanting.
  pub completes : LogGets (λ calls. IsGivenTime setting turns ended.journal calls → ¬ Rose before.output.faults after.output.faults → IsComplete (page_for spec as_book (book_of setting ended.journal) ended.calls) ended.status before.output after.output) before.network.log after.network.log
  -- The text was put, once, and the exit status is that of the end; 4 only where the output failed in this run, and 5 for want of memory.
  pub put : IsPut (text_at (page_for spec as_book (book_of setting ended.journal) ended.calls) end) end ended.status before.output after.output
