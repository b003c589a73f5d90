-- What a run promises: one journal orders what happened in its channel; what it asked for and what its cache gave follows from the cache's calls, and what it called and put from all that.
use Rattle.std.specs.List.{list_all}
use Rattle.std.specs.Prelude.{IfSome, IsTrue, List, None, Option, Some, [], length, map, ℕ, ◌++◌, ◌+◌, ◌∷◌, ◌≡◌, ◌≢◌, ◌≤◌, ◌⊎◌}
use mathlib.Core.List.{IsPrefix}
use Rattle.chan_types.specs.declared.journal.Entry.{Entry}
use Rattle.net_world.specs.Cause.{Rose}
use Rattle.net_world.specs.Logs.{LogGets}
use Rattle.net_world.specs.declared.answers.Waited.TheVariants.{Failed as NotWaited}
use Rattle.net_world.specs.declared.log.WorldCall.{WorldCall}
use Rattle.net_world.specs.declared.log.WorldCall.TheVariants.{Wait}
use Rattle.channel_model.specs.Completion.{fate, pending, ready, requests}
use Rattle.channel_model.specs.Course.{IsCourse, IsCourseSoFar}
use Rattle.channel_model.specs.Journal.{accepted, past_of}
use Rattle.channel_model.specs.Lawful.{IsLawful}
use Rattle.channel_model.specs.Setting.{Setting}
use Rattle.channel_model.specs.Traffic.{TrafficAgrees}
use Rattle.channel_session.specs.Beginning.{BeginsPending}
use Rattle.run_end.specs.declared.ended.Ended.{Ended}
use Rattle.tool_line.specs.Outside.{Outside}
use Rattle.tool_line.specs.Put.{IsPut}
use Rattle.tool_line.specs.declared.ending.Exit.{Exit}
use Rattle.tool_line.specs.declared.ending.Exit.TheVariants.{Failure, OutOfMemory, Stalled, Success, WaitFault}
use Rattle.run_end.specs.Ends.{IsPageEnd, IsRunEnd}
use Rattle.owner_laws.specs.Sessions.{longest_slice}
use Rattle.acache_tool.specs.Asked.{Asked, setting_for}
use Rattle.acache_tool.specs.Closing.{closing, take_entry}
use Rattle.acache_tool.specs.Completing.{IsComplete, IsGivenTime}
use Rattle.acache_tool.specs.Fates.{HaveFates}
use Rattle.owner_laws.specs.PlainEntries.{is_plain_entry}
use Rattle.acache_tool.specs.Leaving.{AreGoodParts}
use Rattle.acache_tool.specs.Output.{text_at}
use Rattle.acache_tool.specs.Parts.{AreRight, MayAsk, Open, Part, answers_of, cache_calls, journal_of, names_of, open_names, open_requests, page, requests_of}
use Rattle.acache_tool.specs.Told.{AreTold, AreToldThen}

-- the journal was closed by one Destroy, which no callback commanded: before it stand the entries of the run, and behind it at most one Take
pub record IsClosed (setting : Setting) (end : Exit) (parts : List Part) (journal : List Entry) : Type 0 where
  pub earlier : List Entry
  pub later : List Entry
  pub journal_is : journal ≡ earlier ++ closing ∷ later
  -- of the channel's one seat, on nobody's command, Accepts, Takes, and entries of turns
  pub plain : IsTrue (list_all is_plain_entry earlier)
  -- first those of the names that have their answers, one name's behind the other's, and where the text is the page no others
  pub by_names : IsPrefix (journal_of parts) earlier
  pub no_others : IsPageEnd end → earlier ≡ journal_of parts
  pub taken_behind : (later ≡ []) ⊎ ((number : ℕ) × (later ≡ take_entry number ∷ []))
  -- where the text is the page, nothing was pending and nothing ready at the Destroy; a run stalls only where a request was pending there
  pub finished : IsPageEnd end → (pending setting (past_of earlier) ≡ []) × (ready setting (past_of earlier) ≡ [])
  pub stalled : end ≡ Stalled → pending setting (past_of earlier) ≢ []

-- what a run that came to this end, behind these names and perhaps one more, called of the network
pub record IsTraffic (setting : Setting) (turns : ℕ) (end : Exit) (parts : List Part) (last : Option Open) (journal : List Entry) (calls : List WorldCall) : Type 0 where
  -- It made so many turns, which are not more than it may make, and read the clock so often beside that: once for each name.
  pub made : ℕ
  pub few : made ≤ turns
  pub asides : ℕ
  pub once_each : IsPageEnd end → asides ≡ length parts
  pub once_more : asides ≤ length parts + 1
  -- Journal and calls fall into these turns: the server is told before the first, nothing waits before it, and between two there is one wait, up to the first deadline, where there is nothing to do, or none where there is something. Want of memory alone cuts this short.
  pub course : end ≢ OutOfMemory → IsCourse setting 0 longest_slice journal calls made asides
  pub course_so_far : IsCourseSoFar setting 0 longest_slice journal calls made asides
  -- A first turn is made only where a request is pending; want of memory may cut it short, and then that isn't said.
  pub begins : end ≢ OutOfMemory → 1 ≤ made → BeginsPending setting 0 longest_slice journal calls
  -- So what the journal notes of messages, queries, links and faults is what these calls tell.
  pub agrees : end ≢ OutOfMemory → TrafficAgrees setting 0 journal calls
  -- The calls for each name begin with the reading of the clock for it, and an answer was kept at the last turn's reading; those for a name that hasn't its answer stand behind them, and begin so too.
  pub told : IsPageEnd end → AreTold setting parts calls
  pub told_then : end ≢ OutOfMemory → IfSome last (λ o. AreToldThen setting parts o calls)
  -- A run ends for a wait only where its last call is a wait that failed.
  pub last_wait : end ≡ WaitFault → (earlier : List WorldCall) × (until : ℕ) × (calls ≡ earlier ++ Wait until NotWaited ∷ [])
  -- It ends as stalled only where all turns were made.
  pub all_turns : end ≡ Stalled → made ≡ turns

-- what a run promises that is asked this
pub record Promise (asked : Asked) (turns : ℕ) (ended : Ended) (before after : Outside) : Type 0 where
  -- How the run came to its end, before its text was put: the text is chosen by that, and the exit status.
  pub end : Exit
  pub ends : IsRunEnd end
  -- The names that have their answers, the latest first, and the name that was asked for last and hasn't, if there is one: the first names of the words, in order, and all of them where the text is the page.
  pub parts : List Part
  pub last : Option Open
  pub in_order : IsPrefix (names_of parts ++ open_names last) asked.names
  pub all : IsPageEnd end → (names_of parts ≡ asked.names) × (last ≡ None)
  -- Each was given by the cache, or asked for where the cache doesn't give its question an answer, or it isn't a name: by the calls of the cache before it, and by the reading of the clock for it.
  pub right : AreRight asked.room parts
  pub missed : IfSome last (λ o. MayAsk asked.room (cache_calls parts) o.at o.name)
  -- One journal orders what happened in the channel: each of its entries may stand where it stands.
  pub lawful : IsLawful (setting_for asked.server) ended.journal
  -- The accepted requests are those of the names that were asked for, in order, and no other.
  pub asked_are : accepted (past_of ended.journal) ≡ requests_of parts ++ open_requests parts last
  -- The callback of each accepted request was called once, with its fate; the answers of the names are the first of these.
  pub called_once : map Some ended.calls ≡ map (λ request. fate (setting_for asked.server) request (past_of ended.journal)) (requests (past_of ended.journal))
  pub answers : IsPrefix (answers_of parts) ended.calls
  -- So the answer of each name that was sent is the fate of its own request, and that of each hit the fate of an earlier request for the same question.
  pub fates : HaveFates (setting_for asked.server) ended.journal parts
  -- Nothing is pending and nothing ready at the journal's end.
  pub all_taken : (pending (setting_for asked.server) (past_of ended.journal) ≡ []) × (ready (setting_for asked.server) (past_of ended.journal) ≡ [])
  -- The channel was destroyed once.
  pub closed : IsClosed (setting_for asked.server) end parts ended.journal
  -- All names ended well, or one otherwise.
  pub success : end ≡ Success → AreGoodParts parts
  pub failure : end ≡ Failure → ¬ AreGoodParts parts
  -- A run ends for a wait only where a wait of the network failed in it.
  pub wait_fault : end ≡ WaitFault → Rose before.network.wait_faults after.network.wait_faults
  -- Where the network tells its calls, those of this run are its server, turns, waits and readings of the clock, and the journal notes what they tell.
  pub traffic : LogGets (IsTraffic (setting_for asked.server) turns end parts last ended.journal) before.network.log after.network.log
  -- A run that is given time comes to its page, where the output doesn't fail in it, unless memory is wanting.
  pub completes : LogGets (λ calls. IsGivenTime (setting_for asked.server) turns (length asked.names) ended.journal calls → ¬ Rose before.output.faults after.output.faults → IsComplete asked.names parts ended.status before.output after.output) before.network.log after.network.log
  -- The text was put, once, and the exit status is that of the end; 4 only where the output failed in this run, and 5 for want of memory.
  pub put : IsPut (text_at (page parts) end) end ended.status before.output after.output
