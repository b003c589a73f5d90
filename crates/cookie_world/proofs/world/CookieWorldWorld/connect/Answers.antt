use Rattle.std.proofs.Common.{refl}
use Rattle.net_world.specs.declared.log.WorldCall.TheVariants.{Connect}
use Rattle.net_world.specs.Cause.{is_not_sent}
use Rattle.cookie_world.proofs.RoundLemmas.{goes_logs, goes_cause, stands_behind}
use Rattle.cookie_world.proofs.world.CookieWorldWorld.connect.Goals as goal

pub invariant_of-self : goal.invariant_of-self
invariant_of-self g c = stands_behind (λ sent. Connect c.args.server c.args.link sent) _ _ _ _ _ _ _ _ _ c.connect_with.ensures.origin c.self.invariant c.connect_with.ensures.goes

pub returns-clause-log : goal.returns-clause-log
returns-clause-log g c = rw (← c.self.view_is) (goes_logs (λ sent. Connect c.args.server c.args.link sent) _ _ _ _ _ c.connect_with.ensures.goes)

pub returns-clause-cause : goal.returns-clause-cause
returns-clause-cause g c = rw (← c.self.view_is) (goes_cause (λ sent. Connect c.args.server c.args.link sent) is_not_sent (λ answer. refl) _ _ _ _ _ c.connect_with.ensures.goes)
