use Rattle.channel_model.proofs.CompletionLemmas.{accepted_numbered}
use Rattle.channel_model.proofs.laws.requests_are_numbered.Goals as goal

pub returns : goal.returns
returns c = accepted_numbered
