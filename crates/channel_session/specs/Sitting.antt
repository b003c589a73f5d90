-- A session between two of its calls, and how far the run that it makes has come.
use Rattle.std.specs.Prelude.{Bool, Err, List, Ok, Option, Result, [], false, option_map, true, ℕ, ◌++◌, ◌+◌, ◌-◌, ◌^◌, ◌∷◌, ◌≡◌, ◌≤◌}
use Rattle.item_list.specs.declared.no_memory.NoMemory.{NoMemory}
use Rattle.net_world.specs.declared.log.WorldCall.{WorldCall}
use Rattle.net_world.specs.declared.log.WorldCall.TheVariants.{Now}
use Rattle.channel_model.specs.Known.{Known}
use Rattle.event_runner.specs.Running.{Running}
use Rattle.event_runner.specs.UnderWay.{Reach, RunsSince, rested, turned}
use Rattle.channel_session.specs.Beginning.{BegunSince}

-- a session: its runner, whether a turn was made since it last waited, and the last turn's reading of the clock, 0 before the first
pub record Sitting : Type 0 where
  pub running : Running
  pub behind_turn : Bool
  pub reading : ℕ

-- what a desk knows of its channel, a session, and the network's log where it is told
pub record Moment : Type 0 where
  pub known : Known
  pub sitting : Sitting
  pub log : Option (List WorldCall)

abbrev pub moment_of : Known → Sitting → Option (List WorldCall) → Moment
moment_of known sitting log = record { known = known; sitting = sitting; log = log }

-- a pause lasts until something is due, however long that is
abbrev pub longest_pause : ℕ
longest_pause = 2 ^ 64 - 1

-- a session that made a turn since it last waited made some, and one that didn't made none at all
abbrev pub IsCount : Bool → ℕ → Type 0
IsCount true turns = 1 ≤ turns
IsCount false turns = turns ≡ 0

-- how far the run has come: it stands right behind its last turn, or before the first
abbrev pub reach_of : Bool → Reach
reach_of true = turned
reach_of false = rested

-- the run that began with this log stands here right behind so many turns, or before the first: journal and calls are a course of them so far, with so many readings of the clock that are no turn's; and the first turn, if there is one, began where a request was pending
pub record StandsBehind (turns asides : ℕ) (began : Option (List WorldCall)) (moment : Moment) : Type 0 where
  pub count : IsCount moment.sitting.behind_turn turns
  pub reading : moment.sitting.reading ≡ moment.sitting.running.reading
  pub runs : RunsSince longest_pause turns asides (reach_of moment.sitting.behind_turn) moment.known moment.sitting.running began moment.log
  pub begun : BegunSince longest_pause turns moment.known began moment.log

-- the clock was read where the run stands, and that reading is no turn's; or memory was wanting, and it wasn't
abbrev pub ReadsClock : Result ℕ NoMemory → Sitting → Option (List WorldCall) → Option (List WorldCall) → Type 0
ReadsClock (Ok reading) sitting old new =
    (new ≡ option_map (λ calls. calls ++ Now reading ∷ []) old)
    × ((known : Known) (began : Option (List WorldCall)) (turns asides : ℕ) → StandsBehind turns asides began (moment_of known sitting old) → StandsBehind turns (asides + 1) began (moment_of known sitting new))
ReadsClock (Err fault) sitting old new = new ≡ old
