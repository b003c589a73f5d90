use Rattle.std.proofs.Common.{refl, ◌∙◌}
use mir.Syntax.{named, ty_unit}
use denote.Exit.{no}
use denote.Param.{arg, param}
use denote.Param.Send.{IsSend, arg_send, param_send}
use Rattle.pooled_places.specs.contracts.deliverer.Deliverer as Deliverer
use Rattle.pooled_places.specs.contracts.ticket.ChannelTicket as ChannelTicket
use Rattle.pooled_places.proofs.Theorems.{channel_ticket_send, deliverer_send}
use Rattle.worker_rounds.specs.contracts.keeper.Keeper as Keeper
use Rattle.worker_rounds.proofs.RoundLemmas.{has_fed, run_more, run_none}
use Rattle.worker_rounds.proofs.SendLemmas.{keeper_send}
use Rattle.worker_rounds.proofs.rounds.run_rounds.Goals as goal

pub loop-init : goal.loop-init
loop-init g c = (refl, refl, run_none (λ its. its.place) (λ its. its.orders) g.P.Pump.steps c.args.feeder.now.source.deliverer.orders (c.args.feeder.now.source.deliverer.place, c.args.feeder.now.source.pump) c.args.feeder.now.pass c.args.crew.now.items)

-- how a parameter's type is named doesn't matter to what it owns
pub run_beside-requires-send-T : goal.run_beside-requires-send-T
run_beside-requires-send-T g c κs within =
    let own : IsSend (ChannelTicket.the_row (record { mir = named 0; lft = κs.1.1.1.1.1.1.0 }) (param 0 g.row.B) g.B.Done) = channel_ticket_send (param 0 g.row.B) g.B.Done c.type_bounds.send-B (record { mir = named 0; lft = κs.1.1.1.1.1.1.0 }) in
    let sent = param_send 0 (arg ty_unit no (ChannelTicket.the_row (record { mir = named 0; lft = κs.1.1.1.1.1.1.0 }) (param 0 g.row.B) g.B.Done)) (arg_send ty_unit no (ChannelTicket.the_row (record { mir = named 0; lft = κs.1.1.1.1.1.1.0 }) (param 0 g.row.B) g.B.Done) own) in
    record { owned = sent.owned; leaving = sent.leaving }

pub run_beside-requires-send-S : goal.run_beside-requires-send-S
run_beside-requires-send-S g c κs within =
    let own : IsSend (Keeper.the_row (record { mir = named 0; lft = κs.1.1.1.1.1.1.0 }) (param 0 g.row.B) (param 1 g.row.P) (param 2 g.row.R) g.B.Done) = keeper_send (param 0 g.row.B) g.B.Done c.type_bounds.send-B (record { mir = named 0; lft = κs.1.1.1.1.1.1.0 }) (param 1 g.row.P) c.type_bounds.send-P (param 2 g.row.R) c.type_bounds.sync-R in
    let sent = param_send 1 (arg ty_unit no (Keeper.the_row (record { mir = named 0; lft = κs.1.1.1.1.1.1.0 }) (param 0 g.row.B) (param 1 g.row.P) (param 2 g.row.R) g.B.Done)) (arg_send ty_unit no (Keeper.the_row (record { mir = named 0; lft = κs.1.1.1.1.1.1.0 }) (param 0 g.row.B) (param 1 g.row.P) (param 2 g.row.R) g.B.Done) own) in
    record { owned = sent.owned; leaving = sent.leaving }

pub run_beside-requires-send-W : goal.run_beside-requires-send-W
run_beside-requires-send-W g c κs within =
    let own : IsSend (Deliverer.the_row (record { mir = named 0; lft = κs.1.1.1.1.1.1.0 }) (param 0 g.row.B) (param 2 g.row.R) g.B.Done) = deliverer_send (param 0 g.row.B) g.B.Done c.type_bounds.send-B (record { mir = named 0; lft = κs.1.1.1.1.1.1.0 }) (param 2 g.row.R) c.type_bounds.sync-R in
    let sent = param_send 2 (arg ty_unit no (Deliverer.the_row (record { mir = named 0; lft = κs.1.1.1.1.1.1.0 }) (param 0 g.row.B) (param 2 g.row.R) g.B.Done)) (arg_send ty_unit no (Deliverer.the_row (record { mir = named 0; lft = κs.1.1.1.1.1.1.0 }) (param 0 g.row.B) (param 2 g.row.R) g.B.Done) own) in
    record { owned = sent.owned; leaving = sent.leaving }

pub loop-preserved : goal.loop-preserved
loop-preserved g c =
    let fed = has_fed g.P.Pump.steps (λ k. k.deliverer.place) (λ k. k.pump) (λ k. k.deliverer.orders) c.loop.feeder.pool.now c.loop.feeder.source c.run_beside.new.feeder.source c.loop.feeder.pass c.run_beside.new.feeder.pass c.run_beside.ensures.feeds in (
      c.is_done.ensures.orders ∙ fed.orders_are ∙ c.loop.invariant.0,
      c.run_beside.ensures.pool ∙ c.loop.invariant.1,
      run_more (λ its. its.place) (λ its. its.orders) g.P.Pump.steps c.args.feeder.now.source.deliverer.orders (λ k. k.deliverer.place) (λ k. k.pump) (λ k. k.deliverer.orders) c.loop.feeder.source c.run_beside.new.feeder.source
          (c.args.feeder.now.source.deliverer.place, c.args.feeder.now.source.pump) (c.is_done.new.self.deliverer.place, c.is_done.new.self.pump)
          c.args.feeder.now.pass c.loop.feeder.pass c.run_beside.new.feeder.pass c.args.crew.now.items c.loop.crew.items c.run_beside.new.workers.items c.loop.invariant.0 c.loop.invariant.2 fed c.run_beside.ensures.works c.is_done.ensures.step,
    )

pub returns-then-is_done-clause-runs : goal.returns-then-is_done-clause-runs
returns-then-is_done-clause-runs g c =
    let fed = has_fed g.P.Pump.steps (λ k. k.deliverer.place) (λ k. k.pump) (λ k. k.deliverer.orders) c.loop.feeder.pool.now c.loop.feeder.source c.run_beside.new.feeder.source c.loop.feeder.pass c.run_beside.new.feeder.pass c.run_beside.ensures.feeds in
    record {
      ran = run_more (λ its. its.place) (λ its. its.orders) g.P.Pump.steps c.args.feeder.now.source.deliverer.orders (λ k. k.deliverer.place) (λ k. k.pump) (λ k. k.deliverer.orders) c.loop.feeder.source c.run_beside.new.feeder.source
          (c.args.feeder.now.source.deliverer.place, c.args.feeder.now.source.pump) (c.is_done.new.self.deliverer.place, c.is_done.new.self.pump)
          c.args.feeder.now.pass c.loop.feeder.pass c.run_beside.new.feeder.pass c.args.crew.now.items c.loop.crew.items c.run_beside.new.workers.items c.loop.invariant.0 c.loop.invariant.2 fed c.run_beside.ensures.works c.is_done.ensures.step;
      ended = c.if-is_done.ensures.ends refl;
    }

pub returns-then-is_done-clause-orders : goal.returns-then-is_done-clause-orders
returns-then-is_done-clause-orders g c =
    let fed = has_fed g.P.Pump.steps (λ k. k.deliverer.place) (λ k. k.pump) (λ k. k.deliverer.orders) c.loop.feeder.pool.now c.loop.feeder.source c.run_beside.new.feeder.source c.loop.feeder.pass c.run_beside.new.feeder.pass c.run_beside.ensures.feeds in
    c.is_done.ensures.orders ∙ fed.orders_are ∙ c.loop.invariant.0

pub returns-then-is_done-clause-pool : goal.returns-then-is_done-clause-pool
returns-then-is_done-clause-pool g c = c.run_beside.ensures.pool ∙ c.loop.invariant.1
