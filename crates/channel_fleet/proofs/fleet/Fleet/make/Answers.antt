use Rattle.std.proofs.Common.{◌∙◌, ◌≡◌, ◌∷◌, [], ap, append_assoc, arith, length, subst, sym}
use Rattle.std.proofs.lemmas.Iterator.Adapters.{YieldsList-from_vec}
use Rattle.std.proofs.lemmas.Iterator.Consumers.{YieldsList-end}
use Rattle.std.specs.Vec.Iter.{into_iter_items}
use Rattle.channel_fleet.specs.Yards.{HasRoomFor}
use Rattle.channel_fleet.proofs.YardLemmas.{channels_len, room_after, room_less, yard_more}
use Rattle.channel_fleet.proofs.fleet.Fleet.make.Goals as goal

pub loop-setup-preserved : goal.loop-setup-preserved
loop-setup-preserved g c =
    let at = c.loop-setup in
    let steps : into_iter_items at.setup-iterator ≡ c.in-Some.setup ∷ into_iter_items c.next.new.self = c.in-Some.ensures.steps.0 in
    let len : length c.in-Ok.launched.berths.items ≡ c.args.callers = omega (arith, c.in-Ok.ensures.len, c.in-Ok.launched.berths.ok.0) in (
      tt,
      tt,
      append_assoc at.yielded (c.in-Some.setup ∷ []) _ ∙ rw (← steps) at.invariant.2,
      yard_more c.args.callers at.yielded c.in-Some.setup c.in-Ok.launched at.yard c.add.new.self at.invariant.3 c.in-Ok.ensures.new len c.add.ensures,
      room_after (length (into_iter_items c.next.new.self)) c.in-Ok.launched at.yard c.add.new.self (len ∙ sym at.invariant.3.as_many) c.add.ensures (subst (λ n. HasRoomFor n at.yard) (ap length steps) at.invariant.4),
    )

pub end-requires-clause-room : goal.end-requires-clause-room
end-requires-clause-room g c = room_less (length (into_iter_items c.loop-setup.setup-iterator)) 0 c.loop-setup.yard (omega arith) c.loop-setup.invariant.4

pub into_fleet-requires-clause-some : goal.into_fleet-requires-clause-some
into_fleet-requires-clause-some g c =
    let gives = c.into_iter-setup-iterator.ensures.into_iter_gives in
    let all = YieldsList-end (YieldsList-from_vec {s = c.into_iter-setup-iterator.result} c.args.setups.items gives.0 (omega (arith, gives.1, c.args.setups.ok.0))) c.loop-setup.yielded c.loop-setup.setup-iterator c.loop-setup.yielded_by c.next.result c.next.new.self c.in-None.is c.next.ensures.steps in
    omega (arith, channels_len c.args.callers c.loop-setup.yielded c.loop-setup.yard.channels.items _ _ c.loop-setup.invariant.3.channels, all.1, c.requires.channels.0, c.args.setups.ok.0, c.loop-setup.yard.channels.ok.0)
