use Rattle.std.proofs.Common.{refl}
use Rattle.net_world.specs.declared.log.WorldCall.TheVariants.{Write}
use Rattle.net_world.specs.Cause.{is_not_written}
use Rattle.cookie_world.proofs.RoundLemmas.{goes_logs, goes_cause, stands_behind}
use Rattle.cookie_world.proofs.world.CookieWorldWorld.write.Goals as goal

pub invariant_of-self : goal.invariant_of-self
invariant_of-self g c = stands_behind (λ wrote. Write c.args.link c.args.bytes.now wrote) _ _ _ _ _ _ _ _ _ c.write_with.ensures.origin c.self.invariant c.write_with.ensures.goes

pub returns-clause-log : goal.returns-clause-log
returns-clause-log g c = rw (← c.self.view_is) (goes_logs (λ wrote. Write c.args.link c.args.bytes.now wrote) _ _ _ _ _ c.write_with.ensures.goes)

pub returns-clause-cause : goal.returns-clause-cause
returns-clause-cause g c = rw (← c.self.view_is) (goes_cause (λ wrote. Write c.args.link c.args.bytes.now wrote) is_not_written (λ answer. refl) _ _ _ _ _ c.write_with.ensures.goes)
