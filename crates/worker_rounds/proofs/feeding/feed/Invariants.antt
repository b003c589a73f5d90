use Rattle.ticket_queue.specs.Passes.{IsAt, MaySend}
use Rattle.worker_rounds.proofs.FeedingLemmas.{HasFed}
use Rattle.worker_rounds.proofs.feeding.feed.Given as goal

-- the pass is the pool's and may send, and so far these were drawn
abbrev pub invariant-loop : goal.invariant-loop
invariant-loop g l = IsAt l.pool.queue l.pass × MaySend l.pass × HasFed g.S.Source.draws g.S.Source.spends l.pool.queue l.fn.source l.fn.pass l.source l.pass
