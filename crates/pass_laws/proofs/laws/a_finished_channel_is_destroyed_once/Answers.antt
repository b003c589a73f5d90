use Rattle.pass_laws.proofs.ClosingLemmas.{destroyed_once_in}
use Rattle.pass_laws.proofs.laws.a_finished_channel_is_destroyed_once.Goals as goal

pub returns : goal.returns
returns g c = destroyed_once_in
