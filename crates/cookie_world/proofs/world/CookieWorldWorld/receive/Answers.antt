use Rattle.std.proofs.Common.{refl}
use Rattle.net_world.specs.declared.log.WorldCall.TheVariants.{Receive}
use Rattle.net_world.specs.Cause.{is_link_failed}
use Rattle.cookie_world.proofs.RoundLemmas.{goes_logs, goes_cause, stands_behind}
use Rattle.cookie_world.proofs.world.CookieWorldWorld.receive.Goals as goal

pub invariant_of-self : goal.invariant_of-self
invariant_of-self g c = stands_behind (λ got. Receive got) _ _ _ _ _ _ _ _ _ c.receive_with.ensures.origin c.self.invariant c.receive_with.ensures.goes

pub returns-clause-log : goal.returns-clause-log
returns-clause-log g c = rw (← c.self.view_is) (goes_logs (λ got. Receive got) _ _ _ _ _ c.receive_with.ensures.goes)

pub returns-clause-cause : goal.returns-clause-cause
returns-clause-cause g c = rw (← c.self.view_is) (goes_cause (λ got. Receive got) is_link_failed (λ answer. refl) _ _ _ _ _ c.receive_with.ensures.goes)
