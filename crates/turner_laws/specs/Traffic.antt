-- What a run calls of the network whose turns are made through a desk of their own, while others use the channel.
use Rattle.std.specs.Prelude.{IsTrue, List, Option, ℕ, ◌≡◌, ◌≢◌, ◌≤◌, ◌⊎◌}
use Rattle.chan_types.specs.declared.journal.Entry.{Entry}
use Rattle.channel_model.specs.Course.{IsCourse, IsCourseSoFar, has_no_turn}
use Rattle.channel_model.specs.CutShort.{NearlyAgrees}
use Rattle.channel_model.specs.Endings.{IsStalledBehind, turns_in}
use Rattle.channel_model.specs.Setting.{Setting}
use Rattle.channel_model.specs.Stretch.{beginning}
use Rattle.channel_model.specs.Traffic.{TrafficAgrees}
use Rattle.channel_progress.specs.Waking.{NoWaitFailed}
use Rattle.event_runner.specs.State.{IsTurnOwner}
use Rattle.net_addr.specs.declared.addr.ServerAddr.{ServerAddr}
use Rattle.net_world.specs.declared.log.WorldCall.{WorldCall}
use Rattle.owner_laws.specs.Sessions.{EndsWithFailedWait}
use Rattle.worker_session.specs.Setting.{SetsBehindFirst, SetsNone, SetsSoFar}
use Rattle.worker_session.specs.Turning.{Turning, longest_pause}
use Rattle.worker_session.specs.declared.coming.Coming.{Coming}
use Rattle.worker_session.specs.declared.coming.Coming.TheVariants.{OutOfMemory, Stalled, WaitFault}

-- no other seat made entries of turns so far; and behind that the journal goes on with no turn's, and the seat sets no servers there
pub record GoesOnBehind (t : Turning) (more : List Entry) : Type 0 where
  pub owner : IsTurnOwner t.known
  pub no_turn : IsTrue (has_no_turn more)
  pub sets_none : SetsNone t.known.seat more

-- what a run that came so far called of the network, of so many turns of this seat and with these servers to be set
pub record IsTrafficBeside (setting : Setting) (seat : ℕ) (later : Option (List ServerAddr)) (turns : ℕ) (coming : Coming) (journal : List Entry) (calls : List WorldCall) : Type 0 where
  -- It made so many turns, which are not more than it may make, and in each it read the clock once.
  pub made : ℕ
  pub few : made ≤ turns
  pub readings : turns_in calls ≡ made
  -- Journal and calls fall into these turns, whoever else made entries between them: the servers of the setting are told before the first, nothing waits before it, and between two there is one wait, of 20 milliseconds at most, or none where there is something to do. Want of memory alone cuts this short.
  pub course : coming ≢ OutOfMemory → IsCourse setting seat longest_pause journal calls made 0
  pub course_so_far : IsCourseSoFar setting seat longest_pause journal calls made 0
  -- The later servers, if there are some, are set behind the first turn and before the second, unless the channel was destroyed before that; where memory was wanting, none may have been set in one turn.
  pub sets : coming ≢ OutOfMemory → SetsBehindFirst setting seat later made journal calls
  pub sets_so_far : SetsSoFar setting seat later made journal calls
  -- So what the journal notes of messages, queries, links and faults is what these calls tell; where memory was wanting, but for one call.
  pub agrees : coming ≢ OutOfMemory → TrafficAgrees setting seat journal calls
  pub nearly_agrees : NearlyAgrees setting seat beginning journal calls
  -- No call is made behind a wait that failed, and one failed only where the run ended for it.
  pub waits : NoWaitFailed calls ⊎ EndsWithFailedWait calls
  pub last_wait : coming ≡ WaitFault → EndsWithFailedWait calls
  pub none_failed : coming ≢ WaitFault → NoWaitFailed calls
  -- A run stalls only where all turns were made, and a request was pending behind the last.
  pub stalled : coming ≡ Stalled → IsStalledBehind setting seat longest_pause turns journal calls
