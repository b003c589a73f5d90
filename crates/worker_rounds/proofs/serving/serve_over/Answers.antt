use Rattle.std.proofs.Common.{arith}
use Rattle.worker_rounds.proofs.ServingLemmas.{at_still, drained_served}
use Rattle.worker_rounds.proofs.WholeLemmas.{still_len}
use Rattle.worker_rounds.proofs.serving.serve_over.Goals as goal

pub drain_through-requires-clause-some : goal.drain_through-requires-clause-some
drain_through-requires-clause-some g c =
    omega (arith, still_len c.args.team.workers.items c.run_over-keeper.new.passes.items c.run_over-keeper.ensures.runs.still, c.requires.some, c.args.team.workers.ok.0, c.run_over-keeper.new.passes.ok.0)

pub drain_through-requires-clause-all : goal.drain_through-requires-clause-all
drain_through-requires-clause-all g c = c.run_over-keeper.ensures.runs.all

pub drain_through-requires-clause-at : goal.drain_through-requires-clause-at
drain_through-requires-clause-at g c = at_still c.args.channel.now c.args.team.workers.items c.run_over-keeper.new.passes.items c.run_over-keeper.ensures.runs.still c.requires.at.1

pub returns-clause-serves : goal.returns-clause-serves
returns-clause-serves g c =
    drained_served g.P.Pump.steps g.P.Pump.ends c.args.orders c.args.team.owner c.place-place.result c.run_over-keeper.result.deliverer.place c.leave-owner.result
    c.args.team.workers.items c.run_over-keeper.new.passes.items c.drain_through.new.passes.items c.args.pump c.run_over-keeper.result.pump c.args.pool.pool.queue c.run_over-keeper.new.rights.items
    c.place-place.ensures c.run_over-keeper.ensures.runs c.drain_through.ensures.drains c.leave-owner.ensures

pub returns-clause-room : goal.returns-clause-room
returns-clause-room g c = omega (arith, c.run_over-keeper.ensures.room, c.drain_through.ensures.room)
