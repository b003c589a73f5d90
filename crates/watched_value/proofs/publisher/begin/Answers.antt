use Rattle.watched_value.proofs.KeptLemmas.{admits, forks, merges}
use Rattle.watched_value.proofs.publisher.begin.Goals as goal

pub reader-requires : goal.reader-requires
reader-requires g c = admits g.S.Opening.opening

pub tell-requires : goal.tell-requires
tell-requires g c = forks g.S.Opening.opening _ _

pub learn-requires-clause-rule : goal.learn-requires-clause-rule
learn-requires-clause-rule g c = merges g.S.Opening.opening _ _ _ _
