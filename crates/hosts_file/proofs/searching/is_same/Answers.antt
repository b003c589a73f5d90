use Rattle.dns_message.proofs.Theorems.{same_is}
use Rattle.hosts_file.proofs.searching.is_same.Goals as goal

pub returns : goal.returns
returns c = same_is c.same.result c.args.name.now c.args.other.now c.same.ensures
