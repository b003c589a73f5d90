use Rattle.std.proofs.Common.{◌∷◌, ◌≡◌, arith, length, subst}
use Rattle.delivery_pool.specs.Pools.{IsNewPool}
use Rattle.pooled_places.proofs.Theorems.{still_none}
use Rattle.worker_rounds.specs.Serving.{IsPoolFor}
use Rattle.worker_rounds.proofs.SettledLemmas.{serves_settled, serves_still}
use Rattle.worker_rounds.proofs.serving.serve.Goals as goal

pub serve_over-requires-clause-pool : goal.serve_over-requires-clause-pool
serve_over-requires-clause-pool g c κs within =
    let same : c.len-workers.result ≡ length c.args.team.workers.items = omega (arith, c.len-workers.ensures, c.args.team.workers.ok.0) in
    let new : IsPoolFor (length c.args.team.workers.items) c.in-Ok.pool.pool c.in-Ok.rights.items =
    record { few = omega (arith, c.requires.some.1, c.args.team.workers.ok.0); room = c.args.room; new = subst (λ n. IsNewPool n c.args.room c.in-Ok.pool.pool c.in-Ok.rights.items) same c.in-Ok.ensures.new } in
    new

pub returns-in_default-clause-still : goal.returns-in_default-clause-still
returns-in_default-clause-still g c = still_none (c.args.team.owner ∷ c.args.team.workers.items)

pub returns-in_default-clause-settled : goal.returns-in_default-clause-settled
returns-in_default-clause-settled g c = λ was. was

pub returns-clause-still : goal.returns-clause-still
returns-clause-still g c =
    serves_still g.P.Pump.steps g.P.Pump.ends c.args.orders c.args.team.owner c.args.team.workers.items c.args.pump c.serve_over.result.team.owner c.serve_over.result.team.workers.items c.serve_over.result.pump c.serve_over.result.refused c.serve_over.ensures.serves

pub returns-clause-settled : goal.returns-clause-settled
returns-clause-settled g c =
    serves_settled g.P.Pump.steps g.P.Pump.ends c.args.orders c.args.team.owner c.args.team.workers.items c.args.pump c.serve_over.result.team.owner c.serve_over.result.team.workers.items c.serve_over.result.pump c.serve_over.result.refused c.serve_over.ensures.serves
