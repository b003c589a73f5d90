use Rattle.watched_value.proofs.KeptLemmas.{looks}
use Rattle.watched_value.proofs.watcher.look.Goals as goal

pub enter_as-requires : goal.enter_as-requires
enter_as-requires g c = looks g.S.Opening.opening _ _
