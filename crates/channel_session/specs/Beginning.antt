-- Where the first turn of a run begins.
use Rattle.std.specs.Prelude.{List, Option, [], ℕ, ◌++◌, ◌≡◌, ◌≢◌, ◌≤◌}
use Rattle.chan_types.specs.declared.journal.Entry.{Entry}
use Rattle.net_world.specs.Logs.{LogGets}
use Rattle.net_world.specs.declared.log.WorldCall.{WorldCall}
use Rattle.channel_model.specs.Completion.{pending}
use Rattle.channel_model.specs.Course.{IsCourse}
use Rattle.channel_model.specs.Journal.{past_of}
use Rattle.channel_model.specs.Known.{Known}
use Rattle.channel_model.specs.Setting.{Setting}
use Rattle.event_runner.specs.State.{IsTurnOwner}

-- a journal and a beginning of its calls fall into one turn, with readings of the clock beside it, and where that turn begins a request is pending
pub record FirstTurn (setting : Setting) (seat slice : ℕ) (earlier : List Entry) (calls : List WorldCall) : Type 0 where
  pub calls_earlier : List WorldCall
  pub calls_behind : List WorldCall
  pub calls_are : calls ≡ calls_earlier ++ calls_behind
  pub asides : ℕ
  pub course : IsCourse setting seat slice earlier calls_earlier 1 asides
  pub some_pending : pending setting (past_of course.first) ≢ []

-- a beginning of the journal falls into such a first turn
pub record BeginsPending (setting : Setting) (seat slice : ℕ) (journal : List Entry) (calls : List WorldCall) : Type 0 where
  pub earlier : List Entry
  pub behind : List Entry
  pub parts : journal ≡ earlier ++ behind
  pub turn : FirstTurn setting seat slice earlier calls

-- the first of so many turns, if there is one, began so
abbrev pub AreBegun : ℕ → ℕ → Known → List WorldCall → Type 0
AreBegun slice turns known calls = 1 ≤ turns → BeginsPending known.setting known.seat slice known.seen calls

-- the same of a log that is told, with the calls that it got since the run began, where no other seat makes entries of turns
abbrev pub BegunSince : ℕ → ℕ → Known → Option (List WorldCall) → Option (List WorldCall) → Type 0
BegunSince slice turns known log_old log_new = LogGets (λ calls. IsTurnOwner known → AreBegun slice turns known calls) log_old log_new
