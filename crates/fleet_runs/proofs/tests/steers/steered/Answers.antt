use Rattle.std.proofs.Common.{◌∙◌, ◌≡◌, ◌∷◌, ◌++◌, [], ap, length, subst, sym}
use Rattle.std.specs.Option.{option_to_list}
use Rattle.channel_fleet.specs.Making.{AreNewChannels}
use Rattle.channel_fleet.specs.Staying.{AllBerthsStay, AllHelmsStay}
use Rattle.channel_fleet.specs.Views.{HelmView}
use Rattle.channel_fleet.proofs.Theorems.{all_stay_none, berths_stay_more, fleet_may_finish, last_stays, one_helm, stays_serves, stays_show}
use Rattle.fleet_runs.proofs.tests.steers.steered.Goals as goal

pub steer-helm-requires-clause-at : goal.steer-helm-requires-clause-at
steer-helm-requires-clause-at g c =
    let last = c.pop-2.ensures.items ∙ ap (λ o. c.pop-2.new.self.items ++ option_to_list o) c.unwrap-helm.ensures in
    (one_helm 1 _ c.in_ok-fleet.fleet c.in_ok-fleet.passes.items c.pop-2.new.self.items c.unwrap-helm.result (subst (AreNewChannels 1 _ c.in_ok-fleet.fleet c.in_ok-fleet.passes.items) last c.in_ok-fleet.ensures.channels) (ap length c.in_ok-push.ensures.items ∙ ap (λ l. length (l ++ c.in_ok-plain_setup.field-0 ∷ [])) c.new-setups.ensures.items)).1

pub finish-roll-requires : goal.finish-roll-requires
finish-roll-requires g c =
    let last = c.pop-2.ensures.items ∙ ap (λ o. c.pop-2.new.self.items ++ option_to_list o) c.unwrap-helm.ensures in
    let none : c.pop-2.new.self.items ≡ [] = (one_helm 1 _ c.in_ok-fleet.fleet c.in_ok-fleet.passes.items c.pop-2.new.self.items c.unwrap-helm.result (subst (AreNewChannels 1 _ c.in_ok-fleet.fleet c.in_ok-fleet.passes.items) last c.in_ok-fleet.ensures.channels) (ap length c.in_ok-push.ensures.items ∙ ap (λ l. length (l ++ c.in_ok-plain_setup.field-0 ∷ [])) c.new-setups.ensures.items)).0 in
    let pass = c.pop.ensures.items ∙ ap (λ o. c.pop.new.self.items ++ option_to_list o) c.unwrap-pass.ensures in
    let used = berths_stay_more c.unwrap-pass.result c.all_as_said-as_said.new.pass c.show-shown.new.pass c.all_as_said-as_said.ensures.stay (stays_show 0 c.show-shown.result c.all_as_said-as_said.new.pass c.show-shown.new.pass c.show-shown.ensures) in
    let both = last_stays c.pop.new.self.items c.pop.new.self.items c.unwrap-pass.result c.show-shown.new.pass (all_stay_none c.pop.new.self.items) used in
    let stays = stays_serves _ _ _ _ c.steer-helm.ensures.serves in
    let helms_were : c.in_ok-fleet.helms.items ≡ c.unwrap-helm.result ∷ [] = last ∙ ap (λ l. l ++ c.unwrap-helm.result ∷ []) none in
    let helms_are : c.push_reserved-2.new.self.items ≡ c.steer-helm.result.0 ∷ [] = c.push_reserved-2.ensures.items ∙ ap (λ l. l ++ c.steer-helm.result.0 ∷ []) none in
    fleet_may_finish c.push_reserved.new.self.items c.push_reserved-2.new.self.items c.in_ok-fleet.ensures
    (subst (λ l. AllBerthsStay l c.push_reserved.new.self.items) (sym pass) (subst (AllBerthsStay (c.pop.new.self.items ++ c.unwrap-pass.result ∷ [])) (sym c.push_reserved.ensures.items) both))
    (subst (λ l. AllHelmsStay l c.push_reserved-2.new.self.items) (sym helms_were) (subst (AllHelmsStay (c.unwrap-helm.result ∷ [])) (sym helms_are) (stays.0, stays.1, tt)))
