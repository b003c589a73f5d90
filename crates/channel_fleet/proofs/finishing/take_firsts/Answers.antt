use Rattle.std.proofs.Common.{◌<◌, arith, length}
use Rattle.channel_fleet.proofs.RoundLemmas.{front}
use Rattle.channel_fleet.proofs.RowLemmas.{taking_end, taking_more, taking_next}
use Rattle.channel_fleet.proofs.finishing.take_firsts.Goals as goal

pub take_first-requires : goal.take_first-requires
take_first-requires g c =
    let at = c.loop in
    let now_is = front at.passes.items c.remove-pass.result c.remove-pass.new.self.items (omega (arith, c.remove-pass.ensures.len, at.passes.ok.0)) c.remove-pass.ensures.value c.remove-pass.ensures.items in
    taking_next (λ berths. 0 < length berths) c.remove-pass.result at.invariant.0 (omega (arith, c.loop-test.true, c.len-count.ensures, c.args.passes.now.ok.0)) now_is c.requires.some

pub loop-preserved : goal.loop-preserved
loop-preserved g c =
    let at = c.loop in
    let now_is = front at.passes.items c.remove-pass.result c.remove-pass.new.self.items (omega (arith, c.remove-pass.ensures.len, at.passes.ok.0)) c.remove-pass.ensures.value c.remove-pass.ensures.items in (
      taking_more c.remove-pass.result c.take_first.new.self c.take_first.result at.invariant.0 (omega (arith, c.loop-test.true, c.len-count.ensures, c.args.passes.now.ok.0)) now_is c.push_reserved-in-loop.ensures.items c.take_first.ensures c.push_reserved.ensures.items,
      omega (arith, at.invariant.1, c.remove-pass.ensures.len, c.push_reserved-in-loop.ensures.len),
      omega (arith, at.invariant.2, c.push_reserved.ensures.len),
      omega (arith, at.invariant.3, c.push_reserved.ensures.capacity),
    )

pub returns-clause-row : goal.returns-clause-row
returns-clause-row g c = (taking_end c.loop.invariant.0 (omega (arith, c.loop-test.false, c.loop.auto.counter-end, c.len-count.ensures, c.args.passes.now.ok.0))).0

pub returns-clause-later : goal.returns-clause-later
returns-clause-later g c = (taking_end c.loop.invariant.0 (omega (arith, c.loop-test.false, c.loop.auto.counter-end, c.len-count.ensures, c.args.passes.now.ok.0))).1
