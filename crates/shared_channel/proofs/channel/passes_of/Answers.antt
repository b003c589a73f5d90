use Rattle.std.proofs.Common.{[], ◌∙◌, ◌∷◌, ◌≡◌, append_assoc}
use Rattle.std.specs.Vec.Iter.{into_iter_items}
use Rattle.shared_channel.proofs.Telling.{passes_pushed}
use Rattle.shared_channel.proofs.channel.passes_of.Goals as goal

pub loop-seat-preserved : goal.loop-seat-preserved
loop-seat-preserved g c =
    let at = c.loop-seat in
    let x = c.in-Some.seat in
    let steps : into_iter_items at.seat-iterator ≡ x ∷ into_iter_items c.next.new.self = c.in-Some.ensures.steps.0 in (
      tt,
      tt,
      append_assoc at.yielded (x ∷ []) _ ∙ rw (← steps) at.invariant.2,
      passes_pushed at.yielded at.passes.items c.push.new.self.items x c.in_ok-pass_of.field-0 c.in_ok-push.ensures.items at.invariant.3 c.in_ok-pass_of.ensures,
    )
