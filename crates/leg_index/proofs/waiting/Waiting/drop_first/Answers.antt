use Rattle.leg_index.proofs.WaitingLemmas.{first_upto, seen_dropped}
use Rattle.leg_index.proofs.waiting.Waiting.drop_first.Goals as goal

-- no leg of the row comes before the first of all
pub drop_front-requires-clause-first : goal.drop_front-requires-clause-first
drop_front-requires-clause-first c = first_upto c.self.inside.row.items c.self.inside.rest _ c.self.view_is c.args.leg c.requires.first

pub returns : goal.returns
returns c = seen_dropped c.self.inside.row.items c.self.inside.rest _ c.self.view_is c.args.leg c.requires.first c.drop_front.new.row.items c.drop_apart.new.rest c.drop_apart.ensures c.drop_front.ensures.left
