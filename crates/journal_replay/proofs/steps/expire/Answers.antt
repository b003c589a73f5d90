use Rattle.journal_replay.proofs.FollowLemmas.{expired_second}
use Rattle.journal_replay.proofs.steps.expire.Goals as goal

pub returns-then-due-number : goal.returns-then-due-number
returns-then-due-number c =
    expired_second _ _ c.args.number c.args.leg c.args.moment c.in-Expired.due c.in-Expired.due_leg (rw (c.in_ok-due.was, c.in-Expired.is) at c.expire.ensures.done) c.if-due-number.true
