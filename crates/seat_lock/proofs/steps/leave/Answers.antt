use Rattle.std.proofs.Common.{◌∙◌, arith}
use Rattle.seat_lock.proofs.LeaveLemmas.{leave_allows}
use Rattle.seat_lock.proofs.steps.leave.Goals as goal

pub fetch_add-requires : goal.fetch_add-requires
fetch_add-requires g c =
    let h = c.requires.holds in (
      c.requires.table.0,
      omega (arith, c.requires.table.1),
      rw h.carried (λ s k len here fits. leave_allows g.S.Kept.stands g.S.Kept.maker g.S.Kept.setting c.args.shared.now.key s k c.args.token.now.id c.args.token.now.me.0 h.state h.turn h.is_set h.adds here (len ∙ c.requires.table.2)),
    )
