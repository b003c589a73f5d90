use Rattle.dns_message.proofs.Theorems.{same_is}
use Rattle.query_machine.proofs.ReplyLemmas.{equal_is}
use Rattle.query_machine.proofs.reply.is_name.Goals as goal

pub returns-then-exact : goal.returns-then-exact
returns-then-exact c = rw c.if-exact.true (equal_is c.equal.result c.args.name.now c.args.asked.now c.equal.ensures)

pub returns-else-exact : goal.returns-else-exact
returns-else-exact c = rw c.if-exact.false (same_is c.same.result c.args.name.now c.args.asked.now c.same.ensures)
