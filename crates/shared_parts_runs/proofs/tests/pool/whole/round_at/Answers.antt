use Rattle.std.proofs.Common.{ap, arith, length, subst, sym}
use lib.ListN.{drop}
use Rattle.shared_parts_runs.specs.Crews.{AreWorkers, worker_shares}
use Rattle.shared_parts_runs.proofs.RoundLemmas.{sender_at, sender_share, shares_stay, workers_stay, written_back}
use Rattle.shared_parts_runs.proofs.tests.pool.whole.round_at.Goals as goal

pub come_back-requires : goal.come_back-requires
come_back-requires g c =
    let news = c.run_round.new.workers in
    let before = subst (AreWorkers c.args.pool.now.queue) (sym c.as_mut_slice.ensures.value) c.in_ok-crew.ensures.workers in
    let behind = workers_stay g.S.Spender.spends g.S.Spender.state c.args.pool.now.queue c.as_mut_slice.result.now news c.run_round.ensures.works before in
    record { workers = subst (AreWorkers c.args.pool.now.queue) (sym (written_back c.in_ok-crew.crew.len news (drop (length news) c.in_ok-crew.crew.items) (omega (arith, c.run_round.ensures.works.0, c.as_mut_slice.ensures.len)))) behind }

pub returns-clause-first : goal.returns-clause-first
returns-clause-first g c =
    sender_at g.S.Spender.spends g.S.Spender.state c.args.pool.now c.args.setup.tickets.items c.args.first (g.S.Spender.state c.args.setup.sender) c.run_round.new.sender.pass (g.S.Spender.state c.run_round.new.sender.spender) c.run_round.ensures.offers.1 c.requires.first.0

pub returns-clause-shares : goal.returns-clause-shares
returns-clause-shares g c =
    let news = c.run_round.new.workers in
    let written = written_back c.in_ok-crew.crew.len news (drop (length news) c.in_ok-crew.crew.items) (omega (arith, c.run_round.ensures.works.0, c.as_mut_slice.ensures.len)) in
    let stay = shares_stay g.S.Spender.spends g.S.Spender.state c.as_mut_slice.result.now news c.run_round.ensures.works in
    let share = sender_share g.S.Spender.spends g.S.Spender.state c.args.pool.now c.args.setup.tickets.items c.args.first (g.S.Spender.state c.args.setup.sender) c.run_round.new.sender.pass (g.S.Spender.state c.run_round.new.sender.spender) c.run_round.ensures.offers.1 in
    omega (arith, share, c.in_ok-others.ensures.shares, ap worker_shares written, stay, ap worker_shares c.as_mut_slice.ensures.value, c.in_ok-crew.ensures.shares)
