use Rattle.std.proofs.Common.{sym, ◌∙◌}
use Rattle.acache_tool.specs.Naming.{scene_of}
use Rattle.acache_tool.proofs.AskLemmas.{missed_none, sends_tries, tries_faults, tries_unread}
use Rattle.acache_tool.proofs.asking.ask_one.Goals as goal

pub returns-in_err-at-clause-tries : goal.returns-in_err-at-clause-tries
returns-in_err-at-clause-tries g c =
    tries_unread _ _ c.args.name.now c.args.asker.now c.args.shown.now c.args.shown.now _ _ c.from_residual.result c.from_residual.ensures.0 c.in_err-at.ensures.reads

pub returns-in-Some-clause-tries : goal.returns-in-Some-clause-tries
returns-in-Some-clause-tries g c =
    tries_faults c.ask_by_cache.result (g.W.World.wait_faults c.args.world.now) (g.W.World.wait_faults c.read_clock.new.world) (g.W.World.wait_faults c.ask_by_cache.new.world) c.args.name.now _ _ c.read_clock.ensures.waits
    (c.ask_by_cache.ensures.tries (g.W.World.log c.args.world.now) c.in_ok-at.ensures.reads)

pub returns-in-None-clause-tries : goal.returns-in-None-clause-tries
returns-in-None-clause-tries g c =
    tries_faults c.send.result (g.W.World.wait_faults c.args.world.now) (g.W.World.wait_faults c.read_clock.new.world) (g.W.World.wait_faults c.send.new.world) c.args.name.now _ _ c.read_clock.ensures.waits
    (sends_tries (g.W.World.wait_faults c.read_clock.new.world) (g.W.World.wait_faults c.send.new.world) c.args.name.now c.in_ok-at.at c.args.asker.now c.args.shown.now (g.W.World.log c.args.world.now) (g.W.World.log c.read_clock.new.world)
    (scene_of c.send.new.asker c.send.new.shown (g.W.World.log c.send.new.world)) c.send.result c.in_ok-at.ensures.reads
    (c.send.ensures.sends c.in_ok-at.at (missed_none c.args.name.now c.in_ok-at.at c.args.shown.now (sym c.in_ok-question.ensures ∙ c.in-None.is))))
