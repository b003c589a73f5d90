use Rattle.std.proofs.Common.{sym, arith}
use Rattle.dns_message.proofs.NameLemmas.{joined_none}
use Rattle.dns_message.proofs.name.Name.joined.Goals as goal

pub returns-then-wire_len : goal.returns-then-wire_len
returns-then-wire_len c = sym (joined_none c.args.self.now c.args.domain.now (omega (arith, c.wire_len.ensures.value, c.wire_len-2.ensures.value)))
