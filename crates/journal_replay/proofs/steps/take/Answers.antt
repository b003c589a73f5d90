use Rattle.journal_replay.proofs.FollowLemmas.{taken_follows}
use Rattle.journal_replay.proofs.steps.take.Goals as goal

pub returns-in-Some : goal.returns-in-Some
returns-in-Some c = taken_follows _ _ c.args.number c.number.result c.in-Some.ticket (rw c.in-Some.is at c.take.ensures.done) c.number.ensures
