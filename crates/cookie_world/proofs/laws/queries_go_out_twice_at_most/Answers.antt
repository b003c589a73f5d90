use Rattle.cookie_world.proofs.RepeatLemmas.{twice_at_most}
use Rattle.cookie_world.proofs.laws.queries_go_out_twice_at_most.Goals as goal

pub returns : goal.returns
returns c = λ inner outer state agree. twice_at_most inner outer state agree
