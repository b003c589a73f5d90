use Rattle.dns_message.proofs.SpellingLemmas.{counts_fit}
use Rattle.dns_message.proofs.encoding.put_header.Goals as goal

pub put_len-requires : goal.put_len-requires
put_len-requires c = rw c.len.ensures (counts_fit c.args.message.now c.requires).questions

pub put_len-requires-2 : goal.put_len-requires-2
put_len-requires-2 c = rw c.len-2.ensures (counts_fit c.args.message.now c.requires).answers

pub put_len-requires-3 : goal.put_len-requires-3
put_len-requires-3 c = rw c.len-3.ensures (counts_fit c.args.message.now c.requires).authorities

pub put_len-requires-4 : goal.put_len-requires-4
put_len-requires-4 c = rw c.len-4.ensures (counts_fit c.args.message.now c.requires).additionals
