use Rattle.journal_replay.proofs.FollowLemmas.{destroyed_follows}
use Rattle.journal_replay.proofs.steps.destroy.Goals as goal

pub returns : goal.returns
returns c = destroyed_follows _ _ c.destroy.result c.destroy.ensures.done
