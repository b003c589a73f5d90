-- The parts of a session's loop, by their answers.
use Rattle.std.specs.Prelude.{Err, Ok, Result, [], ℕ, ◌≢◌, ◌⊎◌}
use Rattle.item_list.specs.declared.no_memory.NoMemory.{NoMemory}
use Rattle.net_world.specs.Cause.{Rose}
use Rattle.channel_model.specs.Known.{Known}
use Rattle.event_runner.specs.Running.{HasLooked}
use Rattle.event_runner.specs.declared.answers.Paused.{Paused}
use Rattle.event_runner.specs.declared.answers.Paused.TheVariants.{Skipped, WaitFault, Woken}
use Rattle.channel_session.specs.Advancing.{Advances, ComesToRest, IsCutOff}
use Rattle.channel_session.specs.Left.{IsOver, pending_of}
use Rattle.channel_session.specs.Progressing.{EndsWithWait, IsDisturbed}
use Rattle.channel_session.specs.Sitting.{Moment}
use Rattle.channel_session.specs.declared.progress.Stepped.{Stepped}
use Rattle.channel_session.specs.declared.progress.Stepped.TheVariants.{Disturbed, Over, Turned, WaitFault as NotWaited}

-- a desk looked at its channel, where a request was pending, and looked again
pub record WaitsOnPending (old new : Known) : Type 0 where
  pub middle : Known
  pub looked : HasLooked old middle
  pub some_pending : pending_of middle ≢ []
  pub looked_again : HasLooked middle new

-- a session may make a turn: it waited, or had no reason to
abbrev pub Rests : Result Paused NoMemory → Moment → Moment → Type 0
Rests (Ok Skipped) old new = ComesToRest 0 old new × Advances 0 [] old new × HasLooked old.known new.known
Rests (Ok Woken) old new = ComesToRest 0 old new × WaitsOnPending old.known new.known
Rests (Ok WaitFault) old new = ComesToRest 0 old new × EndsWithWait old.log new.log
Rests (Err fault) old new = IsCutOff 0 old new

-- what it comes to where nothing is left, by how the pause ended: others left nothing pending while it waited
abbrev pub nothing_by : Paused → Stepped
nothing_by Skipped = Over
nothing_by Woken = Disturbed
nothing_by WaitFault = NotWaited

-- a turn was made
abbrev pub Turns : Result (Unit {0}) NoMemory → Moment → Moment → Type 0
Turns (Ok made) old new = Advances 1 [] old new
Turns (Err fault) old new = IsCutOff 1 old new

-- a turn was made behind a pause, or there was a reason not to
abbrev pub Steps : ℕ → ℕ → Result Stepped NoMemory → Moment → Moment → Type 0
Steps faults_old faults_new (Ok Turned) old new = Advances 1 [] old new
Steps faults_old faults_new (Ok Over) old new = Advances 0 [] old new × IsOver new.known
Steps faults_old faults_new (Ok NotWaited) old new = ComesToRest 0 old new × EndsWithWait old.log new.log × Rose faults_old faults_new
Steps faults_old faults_new (Ok Disturbed) old new = (Advances 0 [] old new ⊎ ComesToRest 0 old new) × IsDisturbed old.known new.known
Steps faults_old faults_new (Err fault) old new = IsCutOff 1 old new
