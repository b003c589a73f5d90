use Rattle.cookie_world.proofs.ServingLemmas.{draws_more}
use Rattle.cookie_world.proofs.serving.draw_cookie.Goals as goal

pub returns-clause-draws : goal.returns-clause-draws
returns-clause-draws g c = draws_more 2 2 _ _ _ _ _ _ _ c.in_ok-draw_two.ensures.draws c.draw_two-2.ensures.draws
