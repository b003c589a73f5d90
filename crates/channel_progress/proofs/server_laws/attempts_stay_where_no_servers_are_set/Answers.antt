use Rattle.channel_progress.proofs.MostLemmas.{attempts_stay}
use Rattle.channel_progress.proofs.server_laws.attempts_stay_where_no_servers_are_set.Goals as goal

pub returns : goal.returns
returns c = attempts_stay
