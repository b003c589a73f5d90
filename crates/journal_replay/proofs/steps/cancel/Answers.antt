use Rattle.journal_replay.proofs.FollowLemmas.{cancelled_follows}
use Rattle.journal_replay.proofs.steps.cancel.Goals as goal

pub returns : goal.returns
returns c = cancelled_follows _ _ c.cancel.result c.cancel.ensures.done
