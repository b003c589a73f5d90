use Rattle.cookie_world.proofs.ServingLemmas.{draws_more}
use Rattle.cookie_world.proofs.serving.draw_two.Goals as goal

pub returns-clause-draws : goal.returns-clause-draws
returns-clause-draws g c = draws_more 1 1 _ _ _ _ _ _ _ c.in_ok-draw_one.ensures.draws c.draw_one-2.ensures.draws
