-- What a serve does with a stand, a helm and its network, one stretch after the other.
use Rattle.std.specs.Prelude.{List, Option, Some, [], ℕ, ◌≡◌, ◌⊎◌, ⊤, ◌∷◌}
use Rattle.atomic_table.specs.Seated.{TableId}
use Rattle.channel_fleet.specs.Serving.{HasNotBegun, IsBegun, Serves, Watch, first_steering, watch_of}
use Rattle.channel_fleet.specs.Steering.{EndsHere, Goes, Steering, made_by, steering_of}
use Rattle.channel_fleet.specs.Views.{HelmView}
use Rattle.channel_fleet.specs.declared.helm_end.HelmEnd.{HelmEnd}
use Rattle.channel_fleet.specs.declared.helm_end.HelmEnd.TheVariants.{NoMemory}
use Rattle.channel_fleet.specs.declared.progress.Progress.{Progress}
use Rattle.channel_fleet.specs.declared.stand.Stand.{Stand}
use Rattle.event_runner.specs.Running.{Running}
use Rattle.net_world.specs.declared.log.WorldCall.{WorldCall}
use Rattle.shared_channel.specs.Passes.{PassView, desk_of}
use Rattle.worker_session.specs.Turning.{pending_of, ready_of, turning_of}

-- where a helm stands that has this runner and has come so far
abbrev pub steering_at : Running → Progress → Watch → Steering
steering_at running progress watch =
    steering_of watch.helm.caller (turning_of (desk_of watch.helm.turner) running progress.left watch.helm.behind_turn progress.later progress.coming watch.log watch.wait_faults) watch.helm.told progress.looked

-- the helm is at the channel with this lock
abbrev pub IsAtLock : TableId → HelmView → Type 0
IsAtLock lock helm = (helm.turner.lock ≡ lock) × (helm.caller.lock ≡ lock)

-- these are helms of the fleet's channels, one for each, in order
abbrev pub AreHelmsOf : List TableId → List HelmView → Type 0
AreHelmsOf [] [] = ⊤
AreHelmsOf [] (helm ∷ helms) = ⊥
AreHelmsOf (lock ∷ locks) [] = ⊥
AreHelmsOf (lock ∷ locks) (helm ∷ helms) = IsAtLock lock helm × AreHelmsOf locks helms

-- nothing is pending or ready where a pass last looked
abbrev pub IsOverAt : PassView → Type 0
IsOverAt pass = (pending_of (desk_of pass) ≡ []) × (ready_of (desk_of pass) ≡ [])

module _ {B W J : Type 0} (log : W → Option (List WorldCall)) (wait_faults : W → ℕ) where
  abbrev pub watch_at : Stand B W J → Watch
  watch_at stand = watch_of log wait_faults stand.helm stand.world

  -- a helm steered on from where it stood, in a serve before which it had made so many turns, and in which it may make so many: it did such things, one after the other, and nothing else; and it has ended for this cause
  pub record SteersOn (earlier turns : ℕ) (first : Steering) (new : Stand B W J) : Type 0 where
    pub last : Steering
    pub course : Goes earlier turns first last
    pub runner : new.helm.runner ≡ Some last.turning.running
    pub stands : steering_at last.turning.running new.progress (watch_at new) ≡ last
    pub counts : (new.progress.earlier ≡ earlier) × (new.progress.turns ≡ turns)
    pub made : new.helm.made ≡ made_by earlier turns last.turning
    pub why : HelmEnd
    pub why_is : new.end ≡ Some why
    pub ends : EndsHere why last

  -- a helm has begun, and steered with so many turns at most
  pub record HasSteered (turns : ℕ) (old : Watch) (new : Stand B W J) : Type 0 where
    pub running : Running
    pub log_begun : Option (List WorldCall)
    pub begins : IsBegun old.helm running old.log log_begun
    pub steered : SteersOn old.helm.made turns (first_steering turns running log_begun old.wait_faults old.helm) new

  -- or it had no memory to begin with
  pub record IsIdle (old : Watch) (new : Stand B W J) : Type 0 where
    pub end_is : new.end ≡ Some NoMemory
    pub not_begun : HasNotBegun old NoMemory (watch_at new)

  -- one of the two: so far it has come in a serve
  abbrev pub IsInServe : ℕ → Watch → Stand B W J → Type 0
  IsInServe turns old new = HasSteered turns old new ⊎ IsIdle old new

  -- whatever serve a stand was in, it is in that still
  abbrev pub StaysInServe : Stand B W J → Stand B W J → Type 0
  StaysInServe old new = (turns : ℕ) (began : Watch) → IsInServe turns began old → IsInServe turns began new

  -- a stand was served: its helm ended for this cause, as a helm does that is steered
  abbrev pub ServesStand : ℕ → Stand B W J → Stand B W J → Type 0
  ServesStand turns old new = (end : HelmEnd) × (new.end ≡ Some end) × Serves turns (watch_at old) end (watch_at new)
