-- What makes a channel's turns beside others who use it: a runner with a desk of its own, its network, and how far it has come.
use Rattle.std.specs.Prelude.{Bool, IsFalse, List, None, Option, [], ℕ, ◌≡◌, ◌≢◌, ◌⊎◌}
use Rattle.channel_model.specs.Completion.{pending, ready}
use Rattle.channel_model.specs.Journal.{past_of}
use Rattle.channel_model.specs.Known.{Known}
use Rattle.event_runner.specs.Running.{HasLooked, Running}
use Rattle.net_addr.specs.declared.addr.ServerAddr.{ServerAddr}
use Rattle.net_world.specs.declared.log.WorldCall.{WorldCall}
use Rattle.worker_session.specs.declared.looking.Look.{Look}
use Rattle.worker_session.specs.declared.looking.Look.TheVariants.{Nothing, Pending, Ready}
use Rattle.worker_session.specs.declared.coming.Coming.{Coming}

-- a pause lasts at most so many milliseconds: so long may a request wait that somebody else makes meanwhile
abbrev pub longest_pause : ℕ
longest_pause = 20

-- what the desk knows, the runner, how many turns it may still make, whether it made one since it last rested, the servers that it is still to set, how it has come so far, and of the network the log where that is told, and the count of failed waits
pub record Turning : Type 0 where
  pub known : Known
  pub running : Running
  pub left : ℕ
  pub behind_turn : Bool
  pub later : Option (List ServerAddr)
  pub coming : Coming
  pub log : Option (List WorldCall)
  pub wait_faults : ℕ

abbrev pub turning_of : Known → Running → ℕ → Bool → Option (List ServerAddr) → Coming → Option (List WorldCall) → ℕ → Turning
turning_of known running left behind_turn later coming log wait_faults = record {
  known = known;
  running = running;
  left = left;
  behind_turn = behind_turn;
  later = later;
  coming = coming;
  log = log;
  wait_faults = wait_faults;
}

-- no servers are to be set behind the turn that was made
abbrev pub OwesNone : Turning → Type 0
OwesNone t = (t.later ≡ None) ⊎ IsFalse t.behind_turn

-- the requests that are pending, and those that are ready, where a desk stands
abbrev pub pending_of : Known → List ℕ
pending_of known = pending known.setting (past_of known.seen)

abbrev pub ready_of : Known → List ℕ
ready_of known = ready known.setting (past_of known.seen)

-- a request is ready; or none is, and one is pending; or nothing is pending or ready
abbrev pub IsThere : Look → Known → Type 0
IsThere Ready known = ready_of known ≢ []
IsThere Pending known = (ready_of known ≡ []) × (pending_of known ≢ [])
IsThere Nothing known = (ready_of known ≡ []) × (pending_of known ≡ [])

-- a desk looked at its channel, and this is there
pub record Looks (look : Look) (old new : Known) : Type 0 where
  pub looked : HasLooked old new
  pub there : IsThere look new
