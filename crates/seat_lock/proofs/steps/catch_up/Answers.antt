use Rattle.std.proofs.Common.{arith}
use Rattle.seat_lock.proofs.ViewLemmas.{some_setting}
use Rattle.seat_lock.proofs.IdleLemmas.{catch_up_allows}
use Rattle.seat_lock.proofs.steps.catch_up.Goals as goal

pub load-requires : goal.load-requires
load-requires g c =
    let i = c.requires.idle in (
      c.requires.table.0,
      omega (arith, c.requires.table.1),
      rw i.1 (λ s k len here fits. let is = some_setting c.args.token.now.me.0.setting i.2 in catch_up_allows g.S.Kept.stands g.S.Kept.maker g.S.Kept.setting c.args.shared.now.key s k c.args.token.now.id c.args.token.now.me.0 is.0 i.0 is.1 here),
    )
