use Rattle.std.proofs.Common.{◌-◌, ◌≡◌, ◌∙◌, ap, arith, length, subst, sym}
use Rattle.ticket_queue.specs.Passes.{new_pass}
use Rattle.worker_rounds.specs.Serving.{IsPoolFor}
use Rattle.worker_rounds.proofs.ServingLemmas.{places_len, run_out}
use Rattle.worker_rounds.proofs.serving.run_over.Goals as goal

pub take_right-right-requires : goal.take_right-right-requires
take_right-right-requires g c =
    let same : length c.args.passes.now.items ≡ c.len-workers.result = omega (arith, c.len-workers.ensures, c.args.passes.now.ok.0) in
    subst (λ n. IsPoolFor n c.args.pool.now.pool c.args.rights.now.items) same c.requires.pool

pub hire-crew-requires-clause-as_many : goal.hire-crew-requires-clause-as_many
hire-crew-requires-clause-as_many g c = c.take_right-right.ensures.as_many ∙ c.len-workers.ensures

pub run_out-requires-clause-passes_room : goal.run_out-requires-clause-passes_room
run_out-requires-clause-passes_room g c =
    omega (arith, places_len (λ its. its.place) (λ its. its.orders) c.hire-crew.result.items, ap length c.hire-crew.ensures.places, c.hire-crew.result.ok.0, c.args.passes.now.ok.0, c.args.passes.now.ok.1, c.hire-crew.ensures.room.0)

pub run_out-requires-clause-rights_room : goal.run_out-requires-clause-rights_room
run_out-requires-clause-rights_room g c =
    omega (arith, places_len (λ its. its.place) (λ its. its.orders) c.hire-crew.result.items, ap length c.hire-crew.ensures.places, c.hire-crew.result.ok.0, c.args.passes.now.ok.0, c.take_right-right.ensures.room.1, c.hire-crew.ensures.room.1, c.len-workers.ensures)

pub returns-clause-runs : goal.returns-clause-runs
returns-clause-runs g c =
    let count = length c.args.passes.now.items in
    let same : c.len-workers.result ≡ count = omega (arith, c.len-workers.ensures, c.args.passes.now.ok.0) in
    run_out g.P.Pump.steps (λ its. its.place) (λ its. its.orders) c.args.keeper.deliverer.orders g.P.Pump.ends c.args.pool.now.pool count
    (c.args.keeper.deliverer.place, c.args.keeper.pump) (c.run_out.result.deliverer.place, c.run_out.result.pump) c.args.passes.now.items c.run_out.new.passes.items c.take_right-right.result c.run_out.new.rights.items c.hire-crew.result.items
    c.requires.pool.few (c.take_right-right.ensures.new ∙ ap (λ n. new_pass c.args.pool.now.pool.queue (1024 - n)) same) (omega (arith, places_len (λ its. its.place) (λ its. its.orders) c.hire-crew.result.items, ap length c.hire-crew.ensures.places)) c.hire-crew.ensures.places c.hire-crew.ensures.new c.run_out.ensures.runs

pub returns-clause-room : goal.returns-clause-room
returns-clause-room g c = c.run_out.ensures.room ∙ c.hire-crew.ensures.room.0
