use Rattle.std.proofs.Common.{codes}
use Rattle.dns_message.proofs.Theorems.{last_is_so}
use Rattle.resolv_options.proofs.searching.is_onion.Goals as goal

pub returns : goal.returns
returns c = last_is_so c.last_is.result (codes "onion") c.args.name.now c.last_is.ensures
