use Rattle.dns_rdata.proofs.TypedLemmas.{typed_is_formed, formed_is_typed, message_typed}
use Rattle.dns_rdata.proofs.laws.well_formed_records_are_typed.Goals as goal

pub returns-clause-exact : goal.returns-clause-exact
returns-clause-exact c = λ rr. (typed_is_formed rr, formed_is_typed rr)

pub returns-clause-message : goal.returns-clause-message
returns-clause-message c = message_typed
