use Rattle.std.proofs.Common.{[], ◌∙◌, ◌∷◌, ◌≡◌, ap, append_assoc, arith, length}
use Rattle.std.specs.Vec.Iter.{into_iter_items}
use Rattle.shared_channel.proofs.DeliverLemmas.{spends_more}
use Rattle.shared_channel.proofs.delivering.spend_each.Goals as goal

pub loop-ticket-preserved : goal.loop-ticket-preserved
loop-ticket-preserved g c =
    let at = c.loop-ticket in
    let x = c.in-Some.ticket in
    let steps : into_iter_items at.ticket-iterator ≡ x ∷ into_iter_items c.next.new.self = c.in-Some.ensures.steps.0 in (
      tt,
      tt,
      append_assoc at.yielded (x ∷ []) _ ∙ rw (← steps) at.invariant.2,
      omega (arith, at.invariant.3, ap length steps, c.push_reserved.ensures.len, c.push_reserved.ensures.capacity),
      rw (c.push_reserved.ensures.items) (spends_more c.args.orders at.yielded x at.called.items c.spend.result c.args.place.now at.place c.spend.new.place at.invariant.4 c.spend.ensures),
    )
