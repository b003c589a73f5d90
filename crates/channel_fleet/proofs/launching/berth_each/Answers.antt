use Rattle.std.proofs.Common.{◌∙◌, ◌≡◌, ◌∷◌, ◌++◌, [], ap, append_assoc, arith, length}
use Rattle.std.specs.Option.{option_to_list}
use Rattle.std.specs.Vec.Iter.{into_iter_items}
use Rattle.channel_fleet.proofs.MakingLemmas.{berthed_more}
use Rattle.channel_fleet.proofs.launching.berth_each.Goals as goal

pub loop-pass-preserved : goal.loop-pass-preserved
loop-pass-preserved g c =
    let at = c.loop-pass in
    let x = c.in-Some.pass in
    let steps : into_iter_items at.pass-iterator ≡ x ∷ into_iter_items c.next.new.self = c.in-Some.ensures.steps.0 in
    let last = c.pop.ensures.items ∙ ap (λ o. c.pop.new.self.items ++ option_to_list o) c.unwrap-watcher.ensures in
    let one = ap (λ o. length (option_to_list o)) c.unwrap-watcher.ensures in
    let more = berthed_more at.yielded x at.berths.items c.push_reserved.new.self.items at.watchers.items c.pop.new.self.items c.unwrap-watcher.result at.invariant.3 at.invariant.4 last c.push_reserved.ensures.items in (
      tt,
      tt,
      append_assoc at.yielded (x ∷ []) _ ∙ rw (← steps) at.invariant.2,
      more.0,
      more.1,
      omega (arith, at.invariant.5, ap length steps, c.pop.ensures.len, one),
      omega (arith, at.invariant.6, c.pop.ensures.len, one, c.push_reserved.ensures.len, c.push_reserved.ensures.capacity),
    )
