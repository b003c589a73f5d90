use Rattle.std.proofs.Common.{refl}
use Rattle.net_world.specs.declared.log.WorldCall.TheVariants.{Wait}
use Rattle.net_world.specs.Cause.{never}
use Rattle.cookie_world.proofs.RoundLemmas.{goes_logs, goes_cause, stands_behind}
use Rattle.cookie_world.proofs.world.CookieWorldWorld.wait.Goals as goal

pub invariant_of-self : goal.invariant_of-self
invariant_of-self g c = stands_behind (λ waited. Wait c.args.until waited) _ _ _ _ _ _ _ _ _ c.wait_with.ensures.origin c.self.invariant c.wait_with.ensures.goes

pub returns-clause-log : goal.returns-clause-log
returns-clause-log g c = rw (← c.self.view_is) (goes_logs (λ waited. Wait c.args.until waited) _ _ _ _ _ c.wait_with.ensures.goes)

pub returns-clause-cause : goal.returns-clause-cause
returns-clause-cause g c = rw (← c.self.view_is) (goes_cause (λ waited. Wait c.args.until waited) never (λ answer. refl) _ _ _ _ _ c.wait_with.ensures.goes)
