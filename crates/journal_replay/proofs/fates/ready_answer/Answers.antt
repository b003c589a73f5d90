use Rattle.std.proofs.Common.{◌∙◌}
use Rattle.journal_replay.proofs.FateLemmas.{fewer_left, passed_none, passed_on}
use Rattle.journal_replay.proofs.fates.ready_answer.Goals as goal

pub loop-ticket-smaller : goal.loop-ticket-smaller
loop-ticket-smaller c = fewer_left c.args.number _ _ _ c.loop-ticket.invariant c.in-Some.ticket (rw c.in-Some.is at c.take.ensures)

pub loop-ticket-preserved : goal.loop-ticket-preserved
loop-ticket-preserved c = passed_on c.args.number _ _ _ c.loop-ticket.invariant c.in-Some.ticket (rw c.in-Some.is at c.take.ensures) (λ e. c.if-number.false (c.number.ensures ∙ e))

pub returns : goal.returns
returns c = passed_none c.args.number _ _ _ c.loop-ticket.invariant (rw c.in_default.is at c.take.ensures)
