use Rattle.shared_channel.proofs.StayLemmas.{all_at}
use Rattle.shared_channel.proofs.plain.plain_channel.Goals as goal

pub returns-clause-at : goal.returns-clause-at
returns-clause-at g c = all_at _ _ _ _ c.in_ok-channel.ensures
