use Rattle.std.proofs.Common.{ap, arith, length, refl}
use Rattle.worker_rounds.proofs.ServingLemmas.{ran_out, worked_len}
use Rattle.worker_rounds.proofs.serving.run_out.Goals as goal

pub push_reserved-requires : goal.push_reserved-requires
push_reserved-requires g c = omega (arith, ap length c.requires.empty.1, c.args.rights.now.ok.0, c.requires.rights_room)

pub dismiss-requires-clause-passes_room : goal.dismiss-requires-clause-passes_room
dismiss-requires-clause-passes_room g c =
    omega (arith, ap length c.requires.empty.0, c.args.passes.now.ok.0, c.requires.passes_room, worked_len (λ its. its.place) (λ its. its.orders) c.args.crew.items c.run_rounds.new.crew.items c.run_rounds.ensures.runs.ran.works, c.args.crew.ok.0, c.run_rounds.new.crew.ok.0)

pub dismiss-requires-clause-rights_room : goal.dismiss-requires-clause-rights_room
dismiss-requires-clause-rights_room g c =
    omega (arith, ap length c.requires.empty.1, c.args.rights.now.ok.0, c.requires.rights_room, c.push_reserved.ensures.len, c.push_reserved.ensures.capacity, worked_len (λ its. its.place) (λ its. its.orders) c.args.crew.items c.run_rounds.new.crew.items c.run_rounds.ensures.runs.ran.works, c.args.crew.ok.0, c.run_rounds.new.crew.ok.0)

pub returns-clause-runs : goal.returns-clause-runs
returns-clause-runs g c =
    ran_out g.P.Pump.steps (λ its. its.place) (λ its. its.orders) c.args.feeder.source.deliverer.orders g.P.Pump.ends
    (c.args.feeder.source.deliverer.place, c.args.feeder.source.pump) (c.run_rounds.new.feeder.source.deliverer.place, c.run_rounds.new.feeder.source.pump) c.args.feeder.pass c.run_rounds.new.feeder.pass
    c.args.crew.items c.args.crew.items c.run_rounds.new.crew.items c.run_rounds.new.crew.items c.args.passes.now.items c.dismiss.new.passes.items c.args.rights.now.items c.push_reserved.new.self.items c.dismiss.new.rights.items
    c.run_rounds.ensures.runs refl refl c.requires.empty.0 c.dismiss.ensures.passes c.requires.empty.1 c.push_reserved.ensures.items c.dismiss.ensures.rights
