use Rattle.std.proofs.Common.{arith}
use Rattle.dns_rdata.proofs.TypedLemmas.{given_is_spelled}
use Rattle.dns_rdata.proofs.typing.data_in.Goals as goal

pub returns-clause-spelled : goal.returns-clause-spelled
returns-clause-spelled c =
    given_is_spelled c.data_by_kind.result c.args.kind c.args.class c.args.bytes.now (λ i. omega (arith, c.type_inv.bytes i)) c.data_by_kind.ensures
