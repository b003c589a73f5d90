use Rattle.cookie_world.proofs.BegunLemmas.{origin_tells}
use Rattle.cookie_world.proofs.laws.origin_tells_how_the_log_began.Goals as goal

pub returns : goal.returns
returns c = λ one other log began same. origin_tells one other log began same
