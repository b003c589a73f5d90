use Rattle.cookie_world.proofs.ReasonLemmas.{received_reason}
use Rattle.cookie_world.proofs.laws.datagrams_are_given_with_a_reason.Goals as goal

pub returns : goal.returns
returns c = λ server bytes old inner new some made. received_reason server bytes some old inner new made
