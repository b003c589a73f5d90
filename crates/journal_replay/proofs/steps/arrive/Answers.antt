use Rattle.journal_replay.proofs.FollowLemmas.{arrived_follows}
use Rattle.journal_replay.proofs.steps.arrive.Goals as goal

pub returns : goal.returns
returns c = arrived_follows _ _ c.args.server c.args.link c.args.bytes.now c.in_ok-_landed._landed (rw c.in_ok-_landed.was at c.arrive.ensures.done)
