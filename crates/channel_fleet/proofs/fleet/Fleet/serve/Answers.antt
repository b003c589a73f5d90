use Rattle.std.proofs.Common.{◌∙◌, ◌≡◌, map, subst, sym}
use Rattle.channel_fleet.proofs.StandLemmas.{each_in_serve_at, serves_each, zip_of, zip_then, zip_with}
use Rattle.channel_fleet.proofs.StayLemmas.{one_at}
use Rattle.channel_fleet.proofs.UseLemmas.{uses_stay}
use Rattle.channel_fleet.specs.Stands.{AreHelmsOf, IsInServe, watch_at}
use Rattle.channel_fleet.specs.Views.{IsAtFleet}
use Rattle.channel_fleet.proofs.fleet.Fleet.serve.Goals as goal

pub settle_each-requires-clause-helms : goal.settle_each-requires-clause-helms
settle_each-requires-clause-helms g c =
    let served = zip_of _ c.args.stands.now c.run_beside-front.new.stands c.run_beside-front.ensures.helms in
    subst (λ locks. AreHelmsOf locks (map (λ stand. stand.helm) c.run_beside-front.new.stands)) (sym c.self.view_is ∙ sym c.deref.ensures.value)
    (each_in_serve_at g.W.World.log g.W.World.wait_faults c.args.turns c.args.self.now c.args.stands.now c.run_beside-front.new.stands
    (zip_with (λ old new. IsInServe g.W.World.log g.W.World.wait_faults c.args.turns (watch_at g.W.World.log g.W.World.wait_faults old) new × (g.W.World.origin new.world ≡ g.W.World.origin old.world)) (λ old new. IsInServe g.W.World.log g.W.World.wait_faults c.args.turns (watch_at g.W.World.log g.W.World.wait_faults old) new) c.args.stands.now c.run_beside-front.new.stands (λ old new both. both.0) served)
    c.requires.helms)

pub settle_each-requires-clause-at : goal.settle_each-requires-clause-at
settle_each-requires-clause-at g c =
    let was : c.replace.result.items ≡ c.args.pass.now = search (c.replace.ensures.value, c.pass.view_is) in
    let at = one_at c.args.self.now c.replace.result.items c.run_beside-front.result.1 (uses_stay c.replace.result.items c.run_beside-front.result.1 c.run_beside-front.ensures.uses) (subst (IsAtFleet c.args.self.now) (sym was) c.requires.at) in
    subst (IsAtFleet c.deref.result.now) (sym (c.deref_mut.ensures.value ∙ c.lent.view_is)) (subst (λ locks. IsAtFleet locks c.run_beside-front.result.1) (sym (c.deref.ensures.value ∙ c.self.view_is)) at)

pub returns-clause-helms : goal.returns-clause-helms
returns-clause-helms g c =
    let served = zip_of _ c.args.stands.now c.run_beside-front.new.stands c.run_beside-front.ensures.helms in
    serves_each g.W.World.log g.W.World.wait_faults c.args.turns c.args.stands.now c.run_beside-front.new.stands c.settle_each.new.stands
    (zip_with (λ old new. IsInServe g.W.World.log g.W.World.wait_faults c.args.turns (watch_at g.W.World.log g.W.World.wait_faults old) new × (g.W.World.origin new.world ≡ g.W.World.origin old.world)) (λ old new. IsInServe g.W.World.log g.W.World.wait_faults c.args.turns (watch_at g.W.World.log g.W.World.wait_faults old) new) c.args.stands.now c.run_beside-front.new.stands (λ old new both. both.0) served) c.settle_each.ensures.serves

pub returns-clause-origins : goal.returns-clause-origins
returns-clause-origins g c =
    let served = zip_of _ c.args.stands.now c.run_beside-front.new.stands c.run_beside-front.ensures.helms in
    zip_then (λ old new. g.W.World.origin new.world ≡ g.W.World.origin old.world) (λ old new. g.W.World.origin new.world ≡ g.W.World.origin old.world) (λ old new. g.W.World.origin new.world ≡ g.W.World.origin old.world) c.args.stands.now c.run_beside-front.new.stands c.settle_each.new.stands
    (λ x y z first second. second ∙ first)
    (zip_with (λ old new. IsInServe g.W.World.log g.W.World.wait_faults c.args.turns (watch_at g.W.World.log g.W.World.wait_faults old) new × (g.W.World.origin new.world ≡ g.W.World.origin old.world)) (λ old new. g.W.World.origin new.world ≡ g.W.World.origin old.world) c.args.stands.now c.run_beside-front.new.stands (λ old new both. both.1) served) c.settle_each.ensures.origins
