use Rattle.pass_laws.proofs.ClosingLemmas.{ends_in_time}
use Rattle.pass_laws.proofs.laws.a_quiet_channel_ends_in_time.Goals as goal

pub returns : goal.returns
returns g c = ends_in_time
