-- How a session goes on: its owner and its workers beside its turner.
use Rattle.std.specs.List.{AllByRecursion}
use Rattle.std.specs.Prelude.{Bool, IsTrue, List, None, Option, Some, [], false, true, ◌≡◌, ◌≢◌, ◌⊎◌}
use mathlib.Core.List.{IsPrefix}
use Rattle.chan_types.specs.declared.journal.Entry.{Entry}
use Rattle.chan_types.specs.declared.orders.Orders.{Orders}
use Rattle.channel_model.specs.Setting.{Setting}
use Rattle.turner_rounds.specs.Served.{AreServed}
use Rattle.shared_channel.specs.Passes.{PassView}
use Rattle.shared_session.specs.Giving.{OnlyGives, OnlyObeys}
use Rattle.shared_session.specs.Looking.{SeesNothing}
use Rattle.shared_session.specs.declared.task.SessionEnd.{SessionEnd}
use Rattle.shared_session.specs.declared.task.SessionEnd.TheVariants.{Completed, OutOfMemory, Stalled, WaitFault}
use Rattle.worker_session.specs.Stepping.{StepsOn}
use Rattle.worker_session.specs.Turning.{OwesNone, Turning, pending_of, ready_of}
use Rattle.worker_session.specs.declared.coming.Coming.{Coming}
use Rattle.worker_session.specs.declared.coming.Coming.TheVariants.{OutOfMemory as WantedMemory, Stalled as HasStalled, UnderWay, WaitFault as HasFaulted}

-- from one moment to another the turner went on; through each other pass one thing after the other was done, as the laws of rounds have it in each journal that goes on from there; and if nothing was made through them but takings and what callbacks commanded, and through the workers' nothing but that, so it is again
pub record HasGone (orders : Orders) (owner : PassView) (workers : List PassView) (old : Turning) (owner_new : PassView) (workers_new : List PassView) (new : Turning) : Type 0 where
  pub turner : StepsOn old new
  pub served : (setting : Setting) (journal : List Entry) → owner.setting ≡ setting → IsPrefix owner_new.seen journal → AreServed orders setting journal owner workers owner_new workers_new
  pub gives : OnlyGives owner → OnlyGives owner_new
  pub obeys : AllByRecursion OnlyObeys workers → AllByRecursion OnlyObeys workers_new

-- where its turns have not come to an end, a session owes no servers
abbrev pub IsBetween : Turning → Type 0
IsBetween t = t.coming ≡ UnderWay → OwesNone t

-- a session came to this end, where its turner and its other passes stand: nothing is seen to be pending or ready through any of them; or its turns came to their end; or memory was wanting, for turns or for a pool
abbrev pub EndsAs : SessionEnd → Turning → List PassView → Type 0
EndsAs Completed t passes = (t.coming ≡ UnderWay) × (ready_of t.known ≡ []) × (pending_of t.known ≡ []) × AllByRecursion SeesNothing passes
EndsAs WaitFault t passes = t.coming ≡ HasFaulted
EndsAs Stalled t passes = t.coming ≡ HasStalled
EndsAs OutOfMemory t passes = (t.coming ≡ WantedMemory) ⊎ (t.coming ≡ UnderWay)

-- the same, if it has come to one; and else more turns may be made
abbrev pub EndsIf : Option SessionEnd → Turning → List PassView → Type 0
EndsIf None t passes = t.coming ≡ UnderWay
EndsIf (Some end) t passes = EndsAs end t passes

-- how a session has ended whose turns have come so far, if it has, by whether all is over
abbrev pub ends_of : Coming → Bool → Option SessionEnd
ends_of UnderWay true = Some Completed
ends_of UnderWay false = None
ends_of HasFaulted over = Some WaitFault
ends_of HasStalled over = Some Stalled
ends_of WantedMemory over = Some OutOfMemory

-- the turner looked, and it keeps what it owes and how it has come; at true it has come to an end, or nothing is pending or ready where its desk stands
pub record LooksOnce (done : Bool) (old new : Turning) : Type 0 where
  pub steps : StepsOn old new
  pub kept : (new.later ≡ old.later) × (new.behind_turn ≡ old.behind_turn) × (new.coming ≡ old.coming)
  pub ended : IsTrue done → (new.coming ≢ UnderWay) ⊎ ((ready_of new.known ≡ []) × (pending_of new.known ≡ []) × OwesNone new)
