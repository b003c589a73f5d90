-- What a helm does at its channel, one thing after the other.
use Rattle.std.specs.Prelude.{List, None, Option, Some, [], min, ℕ, ◌+◌, ◌++◌, ◌-◌, ◌^◌, ◌∷◌, ◌≡◌, ◌≢◌}
use Rattle.channel_fleet.specs.Calling.{CallsPass}
use Rattle.channel_fleet.specs.declared.helm_end.HelmEnd.{HelmEnd}
use Rattle.channel_fleet.specs.declared.helm_end.HelmEnd.TheVariants.{Done, NoMemory, Stalled, WaitFault}
use Rattle.channel_fleet.specs.declared.shown.Shown.{Shown}
use Rattle.channel_model.specs.Meanings.{TellsCounts}
use Rattle.channel_model.specs.declared.answers.Counts.{Counts}
use Rattle.completion_ticket.specs.States.{CalledState, no_orders}
use Rattle.shared_channel.specs.Passes.{PassView}
use Rattle.shared_channel.specs.Spending.{DeliversOne}
use Rattle.worker_session.specs.Stepping.{StepsOn}
use Rattle.worker_session.specs.Turning.{Turning}
use Rattle.worker_session.specs.declared.coming.Coming.TheVariants.{OutOfMemory, WaitFault as WaitFailed}

-- where a helm stands while it steers: its calling pass, what makes its turns, what it published, and the counts that it was answered last in this stretch
pub record Steering : Type 0 where
  pub caller : PassView
  pub turning : Turning
  pub told : List Shown
  pub looked : Option Counts

-- a helm delivers a ready request; finds none ready; publishes its channel's counts; leaves what it published last standing; or makes a turn or a pause, where there is something to be done
pub data Move : Type 0 where
  delivering : Move
  finding_none : Move
  publishing : Shown → Move
  keeping : Shown → Move
  turning_on : Move

-- how many turns were made in this stretch and before it, as far as a count goes
abbrev pub made_by : ℕ → ℕ → Turning → ℕ
made_by earlier turns turning = min (earlier + (turns - turning.left)) (2 ^ 64 - 1)

-- the counts were answered through the calling pass, with the number of turns that were made by then
pub record IsAnswered (earlier turns : ℕ) (shown : Shown) (old new : Steering) : Type 0 where
  pub counts : CallsPass (TellsCounts shown.counts) old.caller new.caller
  pub turns_are : shown.turns ≡ made_by earlier turns old.turning
  pub turning : new.turning ≡ old.turning
  pub looked : new.looked ≡ Some shown.counts

-- one of these was done
abbrev pub Moves : ℕ → ℕ → Move → Steering → Steering → Type 0
Moves earlier turns delivering old new =
    (called : CalledState) × DeliversOne no_orders old.caller (Some called) new.caller × (new ≡ record old { caller = new.caller })
Moves earlier turns finding_none old new = DeliversOne no_orders old.caller None new.caller × (new ≡ record old { caller = new.caller })
Moves earlier turns (publishing shown) old new = IsAnswered earlier turns shown old new × (new.told ≡ old.told ++ shown ∷ [])
Moves earlier turns (keeping shown) old new = IsAnswered earlier turns shown old new × (new.told ≡ old.told)
Moves earlier turns turning_on old new = StepsOn old.turning new.turning × (new ≡ record old { turning = new.turning })

-- these were done, one after the other, and nothing else
abbrev pub MovesEach : ℕ → ℕ → List Move → Steering → Steering → Type 0
MovesEach earlier turns [] old new = new ≡ old
MovesEach earlier turns (move ∷ moves) old new = (middle : Steering) × Moves earlier turns move old middle × MovesEach earlier turns moves middle new

-- such things were done
pub record Goes (earlier turns : ℕ) (old new : Steering) : Type 0 where
  pub moves : List Move
  pub each : MovesEach earlier turns moves old new

-- why it ended, where it stood last: by the counts that it was answered last nothing was pending or ready; a wait of its network failed; it made all turns that it might make, and by those counts a request was pending; or memory was wanting
abbrev pub EndsHere : HelmEnd → Steering → Type 0
EndsHere Done last = (counts : Counts) × (last.looked ≡ Some counts) × (counts.pending ≡ 0) × (counts.ready ≡ 0)
EndsHere WaitFault last = last.turning.coming ≡ WaitFailed
EndsHere Stalled last = (counts : Counts) × (last.looked ≡ Some counts) × (counts.pending ≢ 0) × (last.turning.left ≡ 0)
EndsHere NoMemory last = last.turning.coming ≡ OutOfMemory

abbrev pub steering_of : PassView → Turning → List Shown → Option Counts → Steering
steering_of caller turning told looked = record { caller = caller; turning = turning; told = told; looked = looked }
