use Rattle.std.proofs.Common.{ap}
use Rattle.shared_channel.proofs.PassLemmas.{spends_noted}
use Rattle.shared_channel.proofs.spending.spend.Goals as goal

pub returns : goal.returns
returns g c =
    rw (← c.place.view_is) (spends_noted c.args.orders _ c.args.ticket c.spend-called.result.0 c.spend-called.result.1 c.place.inside.turns c.spend-called.new.desk c.note.new.self c.spend-called.result.2 (ap (λ h. h.orders) c.set.ensures) c.spend-called.ensures.called
    c.spend-called.ensures.call c.spend-called.ensures.same c.spend-called.ensures.performed c.note.ensures)
