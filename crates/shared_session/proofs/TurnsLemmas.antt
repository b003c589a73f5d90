-- A session's turns: where its turner stands before them, and that its passes are at the channel.
use Rattle.std.proofs.Common.{◌≡◌, ◌∙◌, ℕ, Bool, false, List, ◌∷◌, Option, ap}
use Rattle.atomic_table.specs.Seated.{TableId}
use Rattle.chan_types.specs.declared.spec.Spec.{Spec}
use Rattle.channel_model.specs.Known.{Known}
use Rattle.channel_model.specs.Setting.{Setting}
use Rattle.completion_ticket.specs.States.{CallbackState}
use Rattle.event_runner.specs.Running.{Running}
use Rattle.net_addr.specs.declared.addr.ServerAddr.{ServerAddr}
use Rattle.net_world.specs.declared.log.WorldCall.{WorldCall}
use Rattle.shared_channel.proofs.Theorems.{all_at}
use Rattle.shared_channel.specs.Making.{IsNewChannel}
use Rattle.shared_channel.specs.Passes.{PassView, desk_of}
use Rattle.shared_channel.specs.Staying.{AreAt}
use Rattle.worker_session.specs.Turning.{turning_of}
use Rattle.worker_session.specs.declared.coming.Coming.{Coming}
use Rattle.worker_session.specs.declared.coming.Coming.TheVariants.{UnderWay}
use Rattle.shared_session.proofs.AskingLemmas.{stays_asks}
use Rattle.shared_session.specs.Asking.{AsksAll}
use Rattle.shared_session.specs.Turns.{standing_at}

-- a turner that was made of a pass, a runner and a network stands before its first turn
pub stands_first : (pass : PassView) (known : Known) (running runner : Running) (left turns : ℕ) (behind_turn : Bool) (left_later later : Option (List ServerAddr)) (coming : Coming) (log_here log : Option (List WorldCall)) (faults_here faults : ℕ) →
    known ≡ desk_of pass → running ≡ runner → left ≡ turns → behind_turn ≡ false → left_later ≡ later → coming ≡ UnderWay → log_here ≡ log → faults_here ≡ faults →
    turning_of known running left behind_turn left_later coming log_here faults_here ≡ standing_at pass runner turns later log faults
stands_first pass known running runner left turns behind_turn left_later later coming log_here log faults_here faults known_is running_is left_is rests later_is comes log_is faults_are =
    ap (λ k. turning_of k running left behind_turn left_later coming log_here faults_here) known_is
    ∙ ap (λ r. turning_of (desk_of pass) r left behind_turn left_later coming log_here faults_here) running_is
    ∙ ap (λ n. turning_of (desk_of pass) runner n behind_turn left_later coming log_here faults_here) left_is
    ∙ ap (λ b. turning_of (desk_of pass) runner turns b left_later coming log_here faults_here) rests
    ∙ ap (λ l. turning_of (desk_of pass) runner turns false l coming log_here faults_here) later_is
    ∙ ap (λ c. turning_of (desk_of pass) runner turns false later c log_here faults_here) comes
    ∙ ap (λ l. turning_of (desk_of pass) runner turns false later UnderWay l faults_here) log_is
    ∙ ap (λ n. turning_of (desk_of pass) runner turns false later UnderWay log n) faults_are

-- behind the requests all passes are at the channel still
pub asked_at : (lock : TableId) (setting : Setting) (count : ℕ) (requests : List (Spec × CallbackState)) (asked : Bool) (new first owner : PassView) (workers : List PassView) → IsNewChannel lock setting count (new ∷ owner ∷ workers) → AsksAll requests asked new first →
    AreAt lock (first ∷ owner ∷ workers)
asked_at lock setting count requests asked new first owner workers made asks =
    let at = all_at lock setting count (new ∷ owner ∷ workers) made in
    (ap (λ (p : PassView). p.lock) (stays_asks requests asked new first asks).same ∙ at.0, at.1)
