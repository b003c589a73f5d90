-- The turns of a session, from where its turner stands first to its end.
use Rattle.std.specs.Prelude.{Bool, List, Option, false, ℕ, ◌∷◌, ◌≡◌}
use Rattle.chan_types.specs.declared.orders.Orders.{Orders}
use Rattle.event_runner.specs.Running.{Running}
use Rattle.net_addr.specs.declared.addr.ServerAddr.{ServerAddr}
use Rattle.net_world.specs.declared.log.WorldCall.{WorldCall}
use Rattle.pooled_places.specs.Standing.{AreStill}
use Rattle.shared_channel.specs.Passes.{PassView, desk_of}
use Rattle.shared_channel.specs.Settling.{AreSettled}
use Rattle.shared_session.specs.Serving.{EndsAs, HasGone, IsBetween}
use Rattle.shared_session.specs.declared.task.SessionEnd.{SessionEnd}
use Rattle.shared_session.specs.declared.task.SessionEnd.TheVariants.{OutOfMemory}
use Rattle.worker_session.specs.Turning.{Turning, turning_of}
use Rattle.worker_session.specs.declared.coming.Coming.TheVariants.{UnderWay}

-- where a turner stands before its first turn, with this pass, this runner, so many turns that it may make, servers to be set, and a network
abbrev pub standing_at : PassView → Running → ℕ → Option (List ServerAddr) → Option (List WorldCall) → ℕ → Turning
standing_at pass running turns later log wait_faults = turning_of (desk_of pass) running turns false later UnderWay log wait_faults

-- from there it went on with the session to this end, where these are the channel's passes
pub record RunsTurns (orders : Orders) (asked : Bool) (before : Turning) (owner : PassView) (workers : List PassView) (end : SessionEnd) (passes : List PassView) (log_new : Option (List WorldCall)) (faults_new : ℕ) : Type 0 where
  pub after : Turning
  pub last : PassView
  pub owner_new : PassView
  pub workers_new : List PassView
  pub passes_are : passes ≡ last ∷ owner_new ∷ workers_new
  pub stands : after.known ≡ desk_of last
  pub log : after.log ≡ log_new
  pub faults : after.wait_faults ≡ faults_new
  pub gone : HasGone orders owner workers before owner_new workers_new after
  pub still : AreStill (owner ∷ workers) (owner_new ∷ workers_new)
  pub settled : AreSettled (owner ∷ workers) → AreSettled (owner_new ∷ workers_new)
  pub ends : EndsAs end after (owner_new ∷ workers_new)
  pub between : IsBetween after
  -- where a request was refused, memory was wanting
  pub refused : asked ≡ false → end ≡ OutOfMemory
