use Rattle.std.proofs.Common.{arith}
use Rattle.edns_opt.proofs.OptLemmas.{spelling_here}
use Rattle.edns_opt.proofs.writing.spelling_of.Goals as goal

pub put_option-requires : goal.put_option-requires
put_option-requires c = omega (arith, spelling_here c.args.items.now c.loop-item.item-index c.item-item.result c.loop-item-test.true c.item-item.is)
