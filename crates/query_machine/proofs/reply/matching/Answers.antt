use Rattle.std.proofs.Common.{Some, sym, ◌∙◌}
use Rattle.query_machine.proofs.ReplyLemmas.{unseen}
use Rattle.query_machine.proofs.reply.matching.Goals as goal

pub returns-then-not-may_answer : goal.returns-then-not-may_answer
returns-then-not-may_answer c =
    sym (unseen c.args.id c.args.exact (Some c.args.asked.now) c.args.bytes.now (sym c.may_answer.ensures ∙ c.if-not-may_answer.true))
