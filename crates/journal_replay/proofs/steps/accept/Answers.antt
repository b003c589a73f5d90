use Rattle.journal_replay.proofs.FollowLemmas.{accepted_follows}
use Rattle.journal_replay.proofs.steps.accept.Goals as goal

pub returns-in-Ok : goal.returns-in-Ok
returns-in-Ok c =
    accepted_follows _ _ c.args.number c.in-Ok.given _ c.args.spec.now c.args.script.now _ (rw c.in-Ok.is at c.accept.ensures.done) c.in_ok-spec.ensures c.in_ok-copy.ensures
