use Rattle.channel_model.proofs.CommandLemmas.{each_is_accepted}
use Rattle.channel_model.proofs.command_laws.requests_asked_in_time_are_accepted.Goals as goal

pub returns : goal.returns
returns c = each_is_accepted
