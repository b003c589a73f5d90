use Rattle.net_world.proofs.ScriptLemmas.{received}
use Rattle.net_world.proofs.scripted.ScriptWorldWorld.receive.Goals as goal

pub returns-clause-cause : goal.returns-clause-cause
returns-clause-cause c = (received c.args.self.now c.receive.new.self c.receive.ensures.script c.receive.result c.receive.ensures.ok c.receive.ensures.err).0

pub returns-clause-items : goal.returns-clause-items
returns-clause-items c = (received c.args.self.now c.receive.new.self c.receive.ensures.script c.receive.result c.receive.ensures.ok c.receive.ensures.err).1

pub returns-clause-answer : goal.returns-clause-answer
returns-clause-answer c = (received c.args.self.now c.receive.new.self c.receive.ensures.script c.receive.result c.receive.ensures.ok c.receive.ensures.err).2
