use Rattle.std.proofs.Common.{arith}
use Rattle.seat_lock.proofs.ViewLemmas.{some_setting}
use Rattle.seat_lock.proofs.DrawLemmas.{draw_allows}
use Rattle.seat_lock.proofs.steps.draw.Goals as goal

pub fetch_add-requires : goal.fetch_add-requires
fetch_add-requires g c = (
  c.requires.table.0,
  omega (arith, c.requires.table.1),
  rw c.requires.idle.empty (λ s k len here fits. let is = some_setting c.args.token.now.me.0.setting c.requires.idle.is_set in draw_allows g.S.Kept.stands g.S.Kept.maker g.S.Kept.setting c.args.shared.now.key s k c.args.token.now.id c.args.token.now.me.0 is.0 c.requires.idle.idle is.1 here),
)
