use Rattle.std.proofs.Common.{◌≤◌, arith}
use Rattle.std.proofs.lemmas.Result.{IfOk-weaker}
use Rattle.dns_message.specs.Name.{wire_length}
use Rattle.resolv_options.proofs.SearchLemmas.{candidates_some}
use Rattle.resolv_options.proofs.searching.candidates.Goals as goal

pub returns-clause-some : goal.returns-clause-some
returns-clause-some c =
    let short : wire_length c.args.text.now.name ≤ 255 = omega (arith, c.wire_len.ensures.value, c.wire_len.ensures.short) in
    IfOk-weaker c.in_order.result _ _ (λ names is plain. rw is (candidates_some c.args.text.now c.args.options.now short plain)) c.in_order.ensures
