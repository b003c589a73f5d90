use Rattle.std.proofs.Common.{take}
use Rattle.edns_opt.specs.Options.{AreOptions}
use Rattle.edns_opt.proofs.writing.spelling_of.Given as goal

abbrev pub invariant-loop-item : goal.invariant-loop-item
invariant-loop-item l = AreOptions l.out.items (take l.item-index l.items)
