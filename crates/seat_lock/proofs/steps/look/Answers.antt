use Rattle.std.proofs.Common.{arith}
use Rattle.seat_lock.proofs.ViewLemmas.{some_setting}
use Rattle.seat_lock.proofs.LookLemmas.{look_allows}
use Rattle.seat_lock.proofs.steps.look.Goals as goal

pub load-requires : goal.load-requires
load-requires g c =
    let w = c.requires.waits in (
      c.requires.table.0,
      omega (arith, c.requires.table.1),
      rw w.1 (λ s k len here fits. let is = some_setting c.args.token.now.me.0.setting w.2 in look_allows g.S.Kept.stands g.S.Kept.maker g.S.Kept.setting c.args.shared.now.key s k c.args.token.now.id w.0.0 c.args.token.now.me.0 is.0 w.0.1 is.1 here),
    )
