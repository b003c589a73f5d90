use Rattle.std.proofs.Common.{◌≡◌, subst}
use Rattle.std.proofs.lemmas.List.{take_all}
use Rattle.leg_index.specs.Links.{used}
use Rattle.leg_index.proofs.links.find_tcp.Goals as goal

-- the loop has looked at all items
pub returns : goal.returns
returns c = λ link tcp. subst (λ items. used c.args.server link items ≡ 0) (take_all c.loop-index.index c.args.uses.now c.loop-index-test.false) (c.loop-index.invariant link tcp)
