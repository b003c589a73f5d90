use Rattle.std.proofs.Common.{arith}
use Rattle.seat_lock.proofs.ViewLemmas.{some_setting}
use Rattle.seat_lock.proofs.MakingLemmas.{found_allows}
use Rattle.seat_lock.proofs.making.found.Goals as goal

pub load-requires : goal.load-requires
load-requires g c =
    let i = c.requires.first in (
      c.requires.table.0,
      omega (arith, c.requires.table.1),
      rw i.1 (λ s k len here fits. let is = some_setting c.args.token.now.me.0.setting i.2 in found_allows g.S.Kept.stands g.S.Kept.maker g.S.Kept.setting c.args.shared.now.key s k c.args.token.now.id c.args.token.now.me.0 is.0 is.1 here i.0),
    )
