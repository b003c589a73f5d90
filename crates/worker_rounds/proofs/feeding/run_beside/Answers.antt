use Rattle.std.proofs.Common.{arith, length, subst, sym}
use lib.ListN.{drop}
use Rattle.delivery_pool.specs.Parts.{EachDoes}
use Rattle.delivery_pool.specs.Rounds.{WorkersPart}
use Rattle.worker_rounds.proofs.FeedingLemmas.{written_back}
use Rattle.worker_rounds.proofs.feeding.run_beside.Goals as goal

pub returns-clause-works : goal.returns-clause-works
returns-clause-works g c =
    let news = c.beside.new.workers in
    let written = written_back c.args.workers.now.len news (drop (length news) c.args.workers.now.items) (omega (arith, c.beside.ensures.each.0, c.as_mut_slice.ensures.len)) in
    subst (EachDoes (WorkersPart g.W.Spender.spends g.W.Spender.state) c.args.workers.now.items) (sym written)
    (subst (λ l. EachDoes (WorkersPart g.W.Spender.spends g.W.Spender.state) l news) c.as_mut_slice.ensures.value c.beside.ensures.each)
