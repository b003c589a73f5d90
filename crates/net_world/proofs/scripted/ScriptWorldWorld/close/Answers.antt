use Rattle.net_world.proofs.ScriptLemmas.{closed}
use Rattle.net_world.proofs.scripted.ScriptWorldWorld.close.Goals as goal

pub returns-clause-items : goal.returns-clause-items
returns-clause-items c = closed c.args.self.now c.close.new.self c.args.link c.close.result c.close.ensures.ok c.close.ensures.err
