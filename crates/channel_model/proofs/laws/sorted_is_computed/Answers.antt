use Rattle.channel_model.proofs.SortingLemmas.{sorted_is}
use Rattle.channel_model.proofs.laws.sorted_is_computed.Goals as goal

pub returns : goal.returns
returns c = sorted_is
