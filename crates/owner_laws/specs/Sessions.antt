-- How a session of one owner begins its turns and ends its waits.
use Rattle.std.specs.Prelude.{List, [], ℕ, ◌++◌, ◌-◌, ◌^◌, ◌∷◌, ◌≡◌, ◌≢◌, ◌⊎◌}
use Rattle.chan_types.specs.declared.journal.Entry.{Entry}
use Rattle.net_world.specs.declared.answers.Waited.TheVariants.{Failed as NotWaited}
use Rattle.net_world.specs.declared.log.WorldCall.{WorldCall}
use Rattle.net_world.specs.declared.log.WorldCall.TheVariants.{Wait}
use Rattle.channel_model.specs.Completion.{pending, ready}
use Rattle.channel_model.specs.Course.{IsCourse, IsCutCourse}
use Rattle.channel_model.specs.Journal.{past_of}
use Rattle.channel_model.specs.Setting.{Setting}
use Rattle.channel_progress.specs.Waking.{NoWaitFailed}

-- a wait between two turns may last as long as nothing is due
abbrev pub longest_slice : ℕ
longest_slice = 2 ^ 64 - 1

-- a journal and a beginning of its calls fall into one turn, and where that begins a request is pending, and nothing is ready
pub record FirstTurn (setting : Setting) (earlier : List Entry) (calls : List WorldCall) : Type 0 where
  pub calls_earlier : List WorldCall
  pub calls_behind : List WorldCall
  pub calls_are : calls ≡ calls_earlier ++ calls_behind
  pub course : IsCourse setting 0 longest_slice earlier calls_earlier 1 0
  pub some_pending : pending setting (past_of course.first) ≢ []
  pub none_ready : ready setting (past_of course.first) ≡ []

-- a beginning of the journal falls into such a first turn
pub record BeginsPending (setting : Setting) (journal : List Entry) (calls : List WorldCall) : Type 0 where
  pub earlier : List Entry
  pub behind : List Entry
  pub parts : journal ≡ earlier ++ behind
  pub turn : FirstTurn setting earlier calls

-- journal and calls are one turn that was cut short, with what stands around it, and where it begins a request is pending, and nothing is ready
pub record BeginsCut (setting : Setting) (journal : List Entry) (calls : List WorldCall) : Type 0 where
  pub turn : IsCutCourse setting 0 longest_slice journal calls 1 0
  pub some_pending : pending setting (past_of turn.course.first) ≢ []
  pub none_ready : ready setting (past_of turn.course.first) ≡ []

-- the first turn begins so, whole or cut short
abbrev pub BeginsSoFar : Setting → List Entry → List WorldCall → Type 0
BeginsSoFar setting journal calls = BeginsPending setting journal calls ⊎ BeginsCut setting journal calls

-- the last of these calls is a wait that failed, and no wait before it failed
pub record EndsWithFailedWait (calls : List WorldCall) : Type 0 where
  pub earlier : List WorldCall
  pub until : ℕ
  pub calls_are : calls ≡ earlier ++ Wait until NotWaited ∷ []
  pub none_earlier : NoWaitFailed earlier
