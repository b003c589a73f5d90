use Rattle.std.proofs.Common.{refl}
use Rattle.net_world.specs.declared.log.WorldCall.TheVariants.{Serve}
use Rattle.net_world.specs.Cause.{never}
use Rattle.cookie_world.proofs.RoundLemmas.{goes_logs, goes_cause, stands_behind}
use Rattle.cookie_world.proofs.world.CookieWorldWorld.serve.Goals as goal

pub invariant_of-self : goal.invariant_of-self
invariant_of-self g c = stands_behind (λ done. Serve c.args.server c.args.address.now) _ _ _ _ _ _ _ _ _ c.serve_with.ensures.origin c.self.invariant c.serve_with.ensures.goes

pub returns-clause-log : goal.returns-clause-log
returns-clause-log g c = rw (← c.self.view_is) (goes_logs (λ done. Serve c.args.server c.args.address.now) _ _ _ _ _ c.serve_with.ensures.goes)

pub returns-clause-cause : goal.returns-clause-cause
returns-clause-cause g c = rw (← c.self.view_is) (goes_cause (λ done. Serve c.args.server c.args.address.now) never (λ answer. refl) _ _ _ _ _ c.serve_with.ensures.goes)
