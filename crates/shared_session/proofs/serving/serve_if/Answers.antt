use Rattle.std.proofs.Common.{◌∷◌}
use Rattle.pooled_places.proofs.Theorems.{still_none}
use Rattle.shared_session.specs.Turnings.{turning_at}
use Rattle.shared_session.proofs.GoneLemmas.{gone_none}
use Rattle.shared_session.proofs.serving.serve_if.Goals as goal

pub returns-else-asked-clause-gone : goal.returns-else-asked-clause-gone
returns-else-asked-clause-gone g c = gone_none c.args.orders c.args.team.owner c.args.team.workers.items (turning_at c.args.pump)

pub returns-else-asked-clause-still : goal.returns-else-asked-clause-still
returns-else-asked-clause-still g c = still_none (c.args.team.owner ∷ c.args.team.workers.items)
