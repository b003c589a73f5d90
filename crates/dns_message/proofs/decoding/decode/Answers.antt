use Rattle.std.proofs.Common.{arith}
use Rattle.dns_message.proofs.SpelledLemmas.{given_is_valid, given_is_message}
use Rattle.dns_message.proofs.decoding.decode.Goals as goal

pub returns-clause-valid : goal.returns-clause-valid
returns-clause-valid c = given_is_valid c.args.bytes.now (λ i. omega (arith, c.type_inv.bytes i)) c.message_in.result c.message_in.ensures.read

pub returns-clause-typed : goal.returns-clause-typed
returns-clause-typed c = given_is_message c.args.bytes.now (λ i. omega (arith, c.type_inv.bytes i)) c.message_in.result c.message_in.ensures.read
