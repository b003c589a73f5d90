use Rattle.pass_laws.proofs.EndLemmas.{are_obeyed}
use Rattle.pass_laws.proofs.laws.callbacks_of_a_finished_channel_are_obeyed.Goals as goal

pub returns : goal.returns
returns g c = are_obeyed
