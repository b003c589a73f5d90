use Rattle.std.proofs.Common.{Some, ◌∙◌, sym}
use Rattle.channel_model.specs.Meanings.{Takes}
use Rattle.pooled_places.proofs.Theorems.{lock_stays}
use Rattle.shared_channel.specs.Under.{plan_of}
use Rattle.worker_rounds.proofs.CourseLemmas.{drawing_lock, drawn_more, drawn_none, drawn_one}
use Rattle.worker_rounds.proofs.keeper.draw_through.Goals as goal

pub loop-init : goal.loop-init
loop-init g c = (c.requires, drawn_none g.P.Pump.steps c.args.place.now c.args.pump.now)

pub returns-in-Some-clause-lock : goal.returns-in-Some-clause-lock
returns-in-Some-clause-lock g c = lock_stays (Takes plan_of (Some c.in-Some.ticket.ticket)) 0 c.loop.place c.take.new.place c.in-Some.ensures.takes ∙ c.loop.invariant.0

pub returns-in-Some-clause-draws : goal.returns-in-Some-clause-draws
returns-in-Some-clause-draws g c = drawn_one g.P.Pump.steps c.args.place.now c.args.pump.now c.loop.place c.loop.pump c.in-Some.ticket c.take.new.place c.loop.invariant.1 c.in-Some.ensures.takes (c.in-Some.ensures.channel ∙ sym c.loop.invariant.0)

pub returns-then-not-step-clause-lock : goal.returns-then-not-step-clause-lock
returns-then-not-step-clause-lock g c = drawing_lock g.P.Pump.steps c.loop.place c.take.new.place c.step.new.desk c.loop.pump c.step.new.self c.in_default.ensures.takes (c.step.ensures.goes, c.step.ensures.steps) ∙ c.loop.invariant.0

pub returns-then-not-step-clause-draws : goal.returns-then-not-step-clause-draws
returns-then-not-step-clause-draws g c =
    drawn_more g.P.Pump.steps c.args.place.now c.args.pump.now c.loop.place c.loop.pump c.take.new.place c.step.new.desk c.step.new.self c.loop.invariant.1 c.in_default.ensures.takes (c.step.ensures.goes, c.step.ensures.steps)

pub loop-preserved : goal.loop-preserved
loop-preserved g c = (
  drawing_lock g.P.Pump.steps c.loop.place c.take.new.place c.step.new.desk c.loop.pump c.step.new.self c.in_default.ensures.takes (c.step.ensures.goes, c.step.ensures.steps) ∙ c.loop.invariant.0,
  drawn_more g.P.Pump.steps c.args.place.now c.args.pump.now c.loop.place c.loop.pump c.take.new.place c.step.new.desk c.step.new.self c.loop.invariant.1 c.in_default.ensures.takes (c.step.ensures.goes, c.step.ensures.steps),
)
