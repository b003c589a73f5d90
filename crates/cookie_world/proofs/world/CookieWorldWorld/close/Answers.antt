use Rattle.std.proofs.Common.{refl}
use Rattle.net_world.specs.declared.log.WorldCall.TheVariants.{Close}
use Rattle.net_world.specs.Cause.{never}
use Rattle.cookie_world.proofs.RoundLemmas.{goes_logs, goes_cause, stands_behind}
use Rattle.cookie_world.proofs.world.CookieWorldWorld.close.Goals as goal

pub invariant_of-self : goal.invariant_of-self
invariant_of-self g c = stands_behind (λ done. Close c.args.link) _ _ _ _ _ _ _ _ _ c.close_with.ensures.origin c.self.invariant c.close_with.ensures.goes

pub returns-clause-log : goal.returns-clause-log
returns-clause-log g c = rw (← c.self.view_is) (goes_logs (λ done. Close c.args.link) _ _ _ _ _ c.close_with.ensures.goes)

pub returns-clause-cause : goal.returns-clause-cause
returns-clause-cause g c = rw (← c.self.view_is) (goes_cause (λ done. Close c.args.link) never (λ answer. refl) _ _ _ _ _ c.close_with.ensures.goes)
