use Rattle.std.proofs.Common.{◌≡◌, ◌+◌, length, take}
use Rattle.edns_opt.specs.Options.{spelling}
use Rattle.edns_opt.proofs.opt.Opt.fits.Given as goal

abbrev pub invariant-loop-item : goal.invariant-loop-item
invariant-loop-item l = l.left + length (spelling (take l.item-index l.item-items)) ≡ 65535
