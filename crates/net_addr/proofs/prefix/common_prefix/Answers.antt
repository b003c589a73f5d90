use Rattle.std.proofs.Common.{◌∙◌, arith}
use Rattle.net_addr.proofs.PrefixLemmas.{common_prefix-zeros}
use Rattle.net_addr.proofs.prefix.common_prefix.Goals as goal

pub returns : goal.returns
returns c = c.min.ensures ∙ common_prefix-zeros c.args.left c.args.right (omega arith) (omega arith)
