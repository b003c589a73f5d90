-- What contracts see of a runner, and what its pauses and its beginning do.
use Rattle.std.specs.Option.{option_map_or}
use Rattle.std.specs.Prelude.{Bool, Err, IsFalse, IsTrue, List, MatchOption, None, Ok, Option, Result, Some, map, min, option_map, ℕ, ◌++◌, ◌≡◌}
use mathlib.Core.List.{IsPrefix}
use Rattle.item_list.specs.declared.no_memory.NoMemory.{NoMemory}
use Rattle.net_addr.specs.declared.addr.ServerAddr.{ServerAddr}
use Rattle.net_world.specs.declared.answers.Waited.{Waited}
use Rattle.net_world.specs.declared.answers.Waited.TheVariants.{Failed as NotWaited, Woken as WasWoken}
use Rattle.net_world.specs.declared.log.WorldCall.{WorldCall}
use Rattle.net_world.specs.declared.log.WorldCall.TheVariants.{Wait}
use Rattle.channel_model.specs.KeptLinks.{Row}
use Rattle.channel_model.specs.Course.{serves_from, skips}
use Rattle.channel_model.specs.Journal.{Past, past_of}
use Rattle.channel_model.specs.Known.{GoesOn, Known}
use Rattle.channel_model.specs.Lawful.{first_due}
use Rattle.channel_model.specs.Servers.{keyed_from}
use Rattle.channel_model.specs.Setting.{Setting}
use Rattle.event_runner.specs.declared.answers.Paused.{Paused}
use Rattle.event_runner.specs.declared.answers.Paused.TheVariants.{Skipped, WaitFault, Woken}
use Rattle.event_runner.specs.State.{Gets, State}

-- a runner: the last turn's reading of the clock, 0 before the first; whether it met want of memory; the links that it holds, the keys of the servers that it told, and whether it draws bits for the case of letters
pub record Running : Type 0 where
  pub reading : ℕ
  pub broken : Bool
  pub rows : List Row
  pub told : List ℕ
  pub mix : Bool

-- the state of a run with a runner
abbrev pub run_of : Known → Running → Option (List WorldCall) → State
run_of known running log = record { known = known; rows = running.rows; told = running.told; mix = running.mix; log = log }

-- the moment up to which a pause waits: the earlier of the first deadline in flight and this one
abbrev pub wakes_by : Setting → ℕ → Past → ℕ
wakes_by setting latest past = option_map_or (λ due. min due.at latest) (first_due setting past) latest

-- a desk looked at its channel: it made no entry, and all tokens stayed
pub record HasLooked (old new : Known) : Type 0 where
  pub goes_on : GoesOn old new
  pub own : new.own ≡ old.own
  pub names : new.names ≡ old.names

-- it looked at the channel, and nothing is to be waited for there
pub record HasSkipped (old new : Known) (log_old log_new : Option (List WorldCall)) : Type 0 where
  pub looked : HasLooked old new
  pub skipped : IsTrue (skips old.setting (past_of new.seen))
  pub no_call : log_new ≡ log_old

-- it looked at the channel, and something is to be waited for there; and waited once, up to the earlier of the first deadline, where it looked again, and the latest moment
pub record HasWaited (latest : ℕ) (waited : Waited) (old new : Known) (log_old log_new : Option (List WorldCall)) : Type 0 where
  pub middle : Known
  pub looked : HasLooked old middle
  pub not_skipped : IsFalse (skips old.setting (past_of middle.seen))
  pub looked_again : HasLooked middle new
  pub waits : Gets (Wait (wakes_by old.setting latest (past_of new.seen)) waited) log_old log_new

-- what a pause did, by its answer
abbrev pub PausesBy : ℕ → Paused → Known → Known → Option (List WorldCall) → Option (List WorldCall) → Type 0
PausesBy latest Skipped old new log_old log_new = HasSkipped old new log_old log_new
PausesBy latest Woken old new log_old log_new = HasWaited latest WasWoken old new log_old log_new
PausesBy latest WaitFault old new log_old log_new = HasWaited latest NotWaited old new log_old log_new

-- the same, and for want of memory it didn't wait
abbrev pub Pauses : ℕ → Result Paused NoMemory → Known → Known → Option (List WorldCall) → Option (List WorldCall) → Type 0
Pauses latest (Ok answer) old new log_old log_new = PausesBy latest answer old new log_old log_new
Pauses latest (Err fault) old new log_old log_new = HasLooked old new × (log_new ≡ log_old)

-- these servers were told, each by its key, from 0; and for want of memory the first of them
abbrev pub Opens : {T : Type 0} → (T → List ℕ) → List ServerAddr → Result T NoMemory → Option (List WorldCall) → Option (List WorldCall) → Type 0
Opens keys servers (Ok answer) log_old log_new =
    (keys answer ≡ map (λ server. server.key) (keyed_from 0 servers)) × (log_new ≡ option_map (λ calls. calls ++ serves_from 0 servers) log_old)
Opens keys servers (Err fault) log_old log_new =
    MatchOption log_old (log_new ≡ None) (λ earlier. (calls : List WorldCall) × (log_new ≡ Some (earlier ++ calls)) × IsPrefix calls (serves_from 0 servers))
