use Rattle.std.proofs.Common.{◌∙◌, ap, arith, refl, subst, sym}
use Rattle.channel_fleet.proofs.ServeLemmas.{stays_steps}
use Rattle.channel_fleet.proofs.SteerLemmas.{goes_caller, goes_turning}
use Rattle.channel_fleet.specs.Stands.{IsAtLock}
use Rattle.shared_channel.specs.Passes.{PassView, desk_of}
use Rattle.channel_fleet.proofs.steering.steer_with.Goals as goal

pub invariant_of-helm : goal.invariant_of-helm
invariant_of-helm g c =
    let stay = stays_steps c.place.result c.leave.result _ _ refl (ap desk_of c.leave.ensures) (goes_turning _ _ _ _ c.run-end.ensures.goes) in
    let same = stay.same ∙ ap (λ (p : PassView). record p { own = c.leave.result.own; seen = c.leave.result.seen; calls = c.leave.result.calls; lost = c.leave.result.lost }) c.place.ensures in (
      c.helm.invariant.0,
      omega (arith, c.helm.invariant.1, ap (λ (p : PassView). p.seats) same),
      c.helm.invariant.2 ∙ sym (ap (λ (p : PassView). p.setting.options) same),
    )

pub returns-clause-at : goal.returns-clause-at
returns-clause-at g c =
    let stay = stays_steps c.place.result c.leave.result _ _ refl (ap desk_of c.leave.ensures) (goes_turning _ _ _ _ c.run-end.ensures.goes) in
    let called = goes_caller _ _ _ _ c.run-end.ensures.goes in
    let at = subst (IsAtLock c.args.channel.now) (sym c.helm.view_is) c.requires in (
      ap (λ (p : PassView). p.lock) stay.same ∙ ap (λ (p : PassView). p.lock) c.place.ensures ∙ at.0,
      ap (λ (p : PassView). p.lock) c.leave-2.ensures ∙ ap (λ (p : PassView). p.lock) called.same ∙ ap (λ (p : PassView). p.lock) c.place-2.ensures ∙ at.1,
    )
