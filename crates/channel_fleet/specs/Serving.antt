-- A stretch of a helm's steering: how it begins, what is done, and how it ends.
use Rattle.std.specs.Prelude.{Err, List, None, Ok, Option, Some, [], false, ℕ, ◌≡◌, ◌⊎◌}
use Rattle.channel_fleet.specs.Steering.{EndsHere, Goes, Steering, made_by}
use Rattle.channel_fleet.specs.Views.{HelmView}
use Rattle.channel_fleet.specs.declared.helm_end.HelmEnd.{HelmEnd}
use Rattle.channel_fleet.specs.declared.helm_end.HelmEnd.TheVariants.{NoMemory, WaitFault}
use Rattle.event_runner.specs.Running.{Opens, Running}
use Rattle.item_list.specs.declared.no_memory.NoMemory.{NoMemory as Wants}
use Rattle.net_world.specs.Cause.{Rose}
use Rattle.net_world.specs.declared.log.WorldCall.{WorldCall}
use Rattle.shared_channel.specs.Passes.{desk_of}
use Rattle.shared_channel.specs.Staying.{StaysSettled}
use Rattle.worker_session.specs.Standing.{StandsIn}
use Rattle.worker_session.specs.Turning.{turning_of}
use Rattle.worker_session.specs.declared.coming.Coming.TheVariants.{UnderWay}

-- a helm and of its network the log, where that is told, and the count of failed waits
pub record Watch : Type 0 where
  pub helm : HelmView
  pub log : Option (List WorldCall)
  pub wait_faults : ℕ

abbrev pub watch_of : {W : Type 0} → (W → Option (List WorldCall)) → (W → ℕ) → HelmView → W → Watch
watch_of log wait_faults helm world = record { helm = helm; log = log world; wait_faults = wait_faults world }

-- so a helm that has this runner begins with this one: it is that one, with no call of the network; or a new one, which has told the network the servers of the channel's options, and holds no link
abbrev pub Begins : Option Running → HelmView → Running → Option (List WorldCall) → Option (List WorldCall) → Type 0
Begins (Some had) helm running before log = (running ≡ had) × (log ≡ before)
Begins None helm running before log =
    Opens (λ made. made.told) helm.turner.setting.options.servers (Ok running) before log
    × (running ≡ record running { reading = 0; broken = false; rows = []; mix = helm.turner.setting.options.flags.mix })

abbrev pub IsBegun : HelmView → Running → Option (List WorldCall) → Option (List WorldCall) → Type 0
IsBegun helm running before log = Begins helm.runner helm running before log

-- there was no memory for a new one, which may have told the network some of the servers
pub record NeedsMemory (helm : HelmView) (fault : Wants) (before log : Option (List WorldCall)) : Type 0 where
  pub none : helm.runner ≡ None
  pub opens : Opens {T = Running} (λ made. made.told) helm.turner.setting.options.servers (Err fault) before log

-- where a helm stands as it begins with this runner, when it may make so many turns
abbrev pub first_steering : ℕ → Running → Option (List WorldCall) → ℕ → HelmView → Steering
first_steering turns running log wait_faults helm = record {
  caller = helm.caller;
  turning = turning_of (desk_of helm.turner) running turns helm.behind_turn None UnderWay log wait_faults;
  told = helm.told;
  looked = None;
}

-- a helm that stood there has this now
pub record LeavesHelm (turns : ℕ) (old : HelmView) (last : Steering) (new : Watch) : Type 0 where
  pub turner : desk_of new.helm.turner ≡ last.turning.known
  pub caller : new.helm.caller ≡ last.caller
  pub told : new.helm.told ≡ last.told
  pub runner : new.helm.runner ≡ Some last.turning.running
  pub behind_turn : new.helm.behind_turn ≡ last.turning.behind_turn
  pub made : new.helm.made ≡ made_by old.made turns last.turning
  pub log : new.log ≡ last.turning.log
  pub wait_faults : new.wait_faults ≡ last.turning.wait_faults

-- a failed wait ended it only where the count of failed waits rose
abbrev pub HasCause : HelmEnd → ℕ → ℕ → Type 0
HasCause end before now = end ≡ WaitFault → Rose before now

-- a helm served its channel with this runner and so many turns at most: it did such things, one after the other, and nothing else, and ended for this cause
pub record HasServed (turns : ℕ) (old : HelmView) (running : Running) (log : Option (List WorldCall)) (wait_faults : ℕ) (end : HelmEnd) (new : Watch) : Type 0 where
  pub last : Steering
  pub course : Goes old.made turns (first_steering turns running log wait_faults old) last
  pub leaves : LeavesHelm turns old last new
  pub ends : EndsHere end last
  pub cause : HasCause end wait_faults new.wait_faults
  -- both are the passes that they were, and what was taken was told
  pub settled_turner : StaysSettled old.turner new.helm.turner
  pub settled_caller : StaysSettled old.caller new.helm.caller

-- no turn was made through this helm yet
pub record IsUnturned (helm : HelmView) : Type 0 where
  pub no_runner : helm.runner ≡ None
  pub rests : helm.behind_turn ≡ false
  pub unseen : helm.turner.seen ≡ []

-- a helm began, and served its channel. Of one that made no turn before, its journal and what the network's log got agree, and fall into so many turns at most, with pauses of 20 milliseconds, as far as no other seat makes entries of turns
pub record BeganAndServed (turns : ℕ) (old : Watch) (end : HelmEnd) (new : Watch) : Type 0 where
  pub running : Running
  pub log : Option (List WorldCall)
  pub begins : IsBegun old.helm running old.log log
  pub served : HasServed turns old.helm running log old.wait_faults end new
  pub stands : IsUnturned old.helm → StandsIn turns None old.log served.last.turning

-- a helm had no memory to begin with: it did nothing, but for servers that it may have told the network for a new runner
pub record HasNotBegun (old : Watch) (end : HelmEnd) (new : Watch) : Type 0 where
  pub end_is : end ≡ NoMemory
  pub helm : new.helm ≡ old.helm
  pub fault : Wants
  pub needs : NeedsMemory old.helm fault old.log new.log
  pub wait_faults : new.wait_faults ≡ old.wait_faults

-- one of the two
abbrev pub Serves : ℕ → Watch → HelmEnd → Watch → Type 0
Serves turns old end new = BeganAndServed turns old end new ⊎ HasNotBegun old end new
