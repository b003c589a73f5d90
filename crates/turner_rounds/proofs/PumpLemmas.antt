-- A turner that is a pump, over all that the owner of a channel did.
use Rattle.std.proofs.Common.{◌≡◌, ◌∙◌, List, [], ◌∷◌, ap, refl}
use Rattle.channel_model.specs.Known.{Known}
use Rattle.chan_types.specs.declared.orders.Orders.{Orders}
use Rattle.shared_channel.specs.Passes.{PassView, desk_of}
use Rattle.turner_rounds.specs.Pumping.{Pumps}
use Rattle.worker_rounds.proofs.Theorems.{still_freely}
use Rattle.worker_rounds.specs.Course.{Deed, DoesEach, delivering, finding_none, stepping, taking}
use Rattle.worker_rounds.specs.Going.{GoesFreely}
use Rattle.worker_rounds.specs.Serving.{HasServed}
use Rattle.worker_session.proofs.Theorems.{steps_same, steps_then}
use Rattle.worker_session.specs.Stepping.{StepsOn}
use Rattle.worker_session.specs.Turning.{Turning}

-- the owner's desk goes on freely, since it stays as it is
pub pumps_still : (desk : Known) → GoesFreely desk desk
pumps_still desk = still_freely desk desk refl

module _ {P : Type 0} (steps : P → Known → P → Known → Type 0) (turning : P → Turning) (pumps : (old : P) (before : Known) (new : P) (behind : Known) → steps old before new behind → Pumps (turning old) before (turning new) behind) (orders : Orders) where
  -- over deeds of the owner the turner went on
  pub turned_by : (deeds : List Deed) (old new : PassView × P) → DoesEach steps orders deeds old new → StepsOn (turning old.1) (turning new.1)
  turned_by [] old new same = steps_same (turning old.1) (turning new.1) (ap (λ (s : PassView × P). turning s.1) same)
  turned_by (taking its ∷ deeds) old new does =
      steps_then (turning old.1) (turning does.0.1) (turning new.1) (steps_same (turning old.1) (turning does.0.1) (ap turning does.1.1)) (turned_by deeds does.0 new does.2)
  turned_by (delivering its ∷ deeds) old new does =
      steps_then (turning old.1) (turning does.0.1) (turning new.1) (steps_same (turning old.1) (turning does.0.1) (ap turning does.1.4)) (turned_by deeds does.0 new does.2)
  turned_by (finding_none ∷ deeds) old new does =
      steps_then (turning old.1) (turning does.0.1) (turning new.1) (steps_same (turning old.1) (turning does.0.1) (ap turning does.1.1)) (turned_by deeds does.0 new does.2)
  turned_by (stepping ∷ deeds) old new does =
      steps_then (turning old.1) (turning does.0.1) (turning new.1) (pumps old.1 (desk_of old.0) does.0.1 (desk_of does.0.0) does.1.1).turner (turned_by deeds does.0 new does.2)

-- what each step leaves as it was, all of them do
module _ {P X : Type 0} (steps : P → Known → P → Known → Type 0) (of : P → X) (keeps : (old : P) (before : Known) (new : P) (behind : Known) → steps old before new behind → of new ≡ of old) (orders : Orders) where
  pub kept_by : (deeds : List Deed) (old new : PassView × P) → DoesEach steps orders deeds old new → of new.1 ≡ of old.1
  kept_by [] old new same = ap (λ (s : PassView × P). of s.1) same
  kept_by (taking its ∷ deeds) old new does = kept_by deeds does.0 new does.2 ∙ ap of does.1.1
  kept_by (delivering its ∷ deeds) old new does = kept_by deeds does.0 new does.2 ∙ ap of does.1.4
  kept_by (finding_none ∷ deeds) old new does = kept_by deeds does.0 new does.2 ∙ ap of does.1.1
  kept_by (stepping ∷ deeds) old new does = kept_by deeds does.0 new does.2 ∙ keeps old.1 (desk_of old.0) does.0.1 (desk_of does.0.0) does.1.1

-- over rounds
pub turned_over : {P : Type 0} {steps : P → Known → P → Known → Type 0} {ends : P → Known → Type 0} (turning : P → Turning) → ((old : P) (before : Known) (new : P) (behind : Known) → steps old before new behind → Pumps (turning old) before (turning new) behind) →
    (orders : Orders) (owner : PassView) (workers : List PassView) (pump_old : P) (owner_new : PassView) (workers_new : List PassView) (pump_new : P) → HasServed steps ends orders owner workers pump_old owner_new workers_new pump_new → StepsOn (turning pump_old) (turning pump_new)
turned_over {steps = steps} turning pumps orders owner workers pump_old owner_new workers_new pump_new served = turned_by steps turning pumps orders served.deeds (owner, pump_old) (owner_new, pump_new) served.course
