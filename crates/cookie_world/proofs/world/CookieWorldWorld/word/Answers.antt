use Rattle.std.proofs.Common.{refl}
use Rattle.net_world.specs.declared.log.WorldCall.TheVariants.{Word}
use Rattle.net_world.specs.Cause.{never}
use Rattle.cookie_world.proofs.RoundLemmas.{goes_logs, goes_cause, stands_behind}
use Rattle.cookie_world.proofs.world.CookieWorldWorld.word.Goals as goal

pub invariant_of-self : goal.invariant_of-self
invariant_of-self g c = stands_behind (λ word. Word word) _ _ _ _ _ _ _ _ _ c.word_with.ensures.origin c.self.invariant c.word_with.ensures.goes

pub returns-clause-log : goal.returns-clause-log
returns-clause-log g c = rw (← c.self.view_is) (goes_logs (λ word. Word word) _ _ _ _ _ c.word_with.ensures.goes)

pub returns-clause-cause : goal.returns-clause-cause
returns-clause-cause g c = rw (← c.self.view_is) (goes_cause (λ word. Word word) never (λ answer. refl) _ _ _ _ _ c.word_with.ensures.goes)
