use Rattle.acache_tool.specs.Naming.{scene_of}
use Rattle.acache_tool.proofs.AskLemmas.{missed_after, sends_as, sends_tries, tries_hit, tries_unasked}
use Rattle.acache_tool.proofs.asking.ask_by_cache.Goals as goal

pub returns-in_err-is_hit-clause-tries : goal.returns-in_err-is_hit-clause-tries
returns-in_err-is_hit-clause-tries g c = λ log reads.
    tries_unasked _ _ c.args.name.now c.args.at c.args.asker.now c.args.shown.now c.show_hit.new.shown log (g.W.World.log c.args.world.now) c.from_residual.result c.from_residual.ensures.0 reads

pub returns-then-is_hit-clause-tries : goal.returns-then-is_hit-clause-tries
returns-then-is_hit-clause-tries g c = λ log reads.
    tries_hit _ _ c.args.name.now c.args.at c.args.asker.now c.args.shown.now c.show_hit.new.shown log (g.W.World.log c.args.world.now) c.args.question.now c.requires.is_name (rw c.if-is_hit.true at c.in_ok-is_hit.ensures) reads

pub returns-clause-tries : goal.returns-clause-tries
returns-clause-tries g c = λ log reads.
    let hit = rw c.if-is_hit.false at c.in_ok-is_hit.ensures in
    sends_tries (g.W.World.wait_faults c.args.world.now) (g.W.World.wait_faults c.send.new.world) c.args.name.now c.args.at c.args.asker.now c.args.shown.now log (g.W.World.log c.args.world.now)
    (scene_of c.send.new.asker c.send.new.shown (g.W.World.log c.send.new.world)) c.send.result reads
    (sends_as _ _ c.args.name.now c.args.at c.args.asker.now c.args.shown.now c.show_hit.new.shown (g.W.World.log c.args.world.now) _ c.send.result hit.1 (c.send.ensures.sends c.args.at (missed_after c.args.name.now c.args.at c.args.question.now c.args.shown.now c.show_hit.new.shown c.requires.is_name hit)))
