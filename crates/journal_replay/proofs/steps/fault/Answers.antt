use Rattle.journal_replay.proofs.FollowLemmas.{failed_follows}
use Rattle.journal_replay.proofs.steps.fault.Goals as goal

pub returns : goal.returns
returns c = failed_follows _ _ c.args.server c.args.link c.args.moment c.in_ok-_failed._failed (rw c.in_ok-_failed.was at c.fault.ensures.done)
