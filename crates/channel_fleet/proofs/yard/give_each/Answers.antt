use Rattle.std.proofs.Common.{◌∙◌, ◌≡◌, ◌≤◌, ◌+◌, ◌∷◌, [], ap, append_assoc, arith, length, vec_capacity}
use Rattle.std.proofs.lemmas.List.{length-append}
use Rattle.std.specs.Vec.Iter.{into_iter_items}
use Rattle.channel_fleet.proofs.RoundLemmas.{front}
use Rattle.channel_fleet.proofs.RowLemmas.{giving_more, giving_next}
use Rattle.channel_fleet.proofs.yard.give_each.Goals as goal

pub push_reserved-requires : goal.push_reserved-requires
push_reserved-requires g c =
    let at = c.loop-berth in
    let steps : into_iter_items at.berth-iterator ≡ c.in-Some.berth ∷ into_iter_items c.next.new.self = c.in-Some.ensures.steps.0 in
    let now_is = front at.rows.items c.remove-row.result c.remove-row.new.self.items (omega (arith, c.remove-row.ensures.len, at.rows.ok.0)) c.remove-row.ensures.value c.remove-row.ensures.items in
    let room : length c.remove-row.result.items + 1 ≤ vec_capacity c.remove-row.result =
    giving_next (λ row. row.items) (λ row. vec_capacity row) (λ row. length row.items + 1 ≤ vec_capacity row) c.remove-row.result at.invariant.3 (omega (arith, at.invariant.4, ap length steps)) now_is c.requires.room in
    omega (arith, room, c.remove-row.result.ok.0)

pub loop-berth-preserved : goal.loop-berth-preserved
loop-berth-preserved g c =
    let at = c.loop-berth in
    let x = c.in-Some.berth in
    let steps : into_iter_items at.berth-iterator ≡ x ∷ into_iter_items c.next.new.self = c.in-Some.ensures.steps.0 in
    let now_is = front at.rows.items c.remove-row.result c.remove-row.new.self.items (omega (arith, c.remove-row.ensures.len, at.rows.ok.0)) c.remove-row.ensures.value c.remove-row.ensures.items in (
      tt,
      tt,
      append_assoc at.yielded (x ∷ []) _ ∙ rw (← steps) at.invariant.2,
      giving_more (λ row. row.items) (λ row. vec_capacity row) c.remove-row.result c.push_reserved.new.self x at.invariant.3 (omega (arith, at.invariant.4, ap length steps)) now_is c.push_reserved-in-loop-berth.ensures.items c.push_reserved.ensures.items c.push_reserved.ensures.capacity,
      omega (arith, at.invariant.4, ap length steps, length-append at.yielded (x ∷ [])),
      omega (arith, at.invariant.5, c.remove-row.ensures.len, c.push_reserved-in-loop-berth.ensures.len),
    )
