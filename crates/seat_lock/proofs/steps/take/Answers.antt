use Rattle.std.proofs.Common.{◌∙◌, refl, Some}
use Rattle.seat_lock.proofs.steps.take.Goals as goal

pub exchange-requires : goal.exchange-requires
exchange-requires g c =
    let t = c.await_turn.ensures.took in
    (c.await_turn.ensures.token.0 ∙ c.requires.table.0, (Some t.state, rw t.is refl))
