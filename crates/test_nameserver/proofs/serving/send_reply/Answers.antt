use Rattle.std.proofs.Common.{sym}
use Rattle.test_nameserver.proofs.TurnLemmas.{reply_logged}
use Rattle.test_nameserver.proofs.serving.send_reply.Goals as goal

pub returns-in-Ok-Some-clause-replies : goal.returns-in-Ok-Some-clause-replies
returns-in-Ok-Some-clause-replies g c =
    reply_logged _ c.as_slice.result.now _ _ c.reply-in-Ok-Some.result
    (rw c.as_slice.ensures (sym (rw c.in-Ok-Some.field-0-is at c.in-Ok-Some.ensures))) c.reply-in-Ok-Some.ensures.log
