use Rattle.query_cache.proofs.LifetimeLemmas.{lives_as_long}
use Rattle.query_cache.proofs.laws.answers_live_for_the_least_ttl.Goals as goal

pub returns : goal.returns
returns c = lives_as_long
