use Rattle.dns_message.proofs.Theorems.{last_is_so}
use Rattle.addr_lookup.proofs.searching.has_last.Goals as goal

pub returns : goal.returns
returns c = last_is_so c.last_is.result c.args.label.now c.args.name.now c.last_is.ensures
