use Rattle.std.proofs.Common.{◌+◌, ◌∙◌, arith, refl, subst, sym, true}
use Rattle.shared_channel.specs.Staying.{AreAt}
use Rattle.shared_session.proofs.RoundLemmas.{IsLooking, front, looked_at, looking_all, looking_more, looking_none, push_at}
use Rattle.shared_session.proofs.looking.look_all.Goals as goal

pub loop-init : goal.loop-init
loop-init g c = (looking_none true c.args.passes.now.items, c.requires, refl, refl, c.len-count.ensures)

pub look_one-pass-requires : goal.look_one-pass-requires
look_one-pass-requires g c =
    let at = c.loop in
    let first = front at.passes.items c.remove.result c.remove.new.self.items (omega (arith, c.remove.ensures.len, at.passes.ok.0)) c.remove.ensures.value c.remove.ensures.items in
    (subst (AreAt c.args.channel.now) first at.invariant.1).0

pub loop-preserved : goal.loop-preserved
loop-preserved g c =
    let at = c.loop in
    let first = front at.passes.items c.remove.result c.remove.new.self.items (omega (arith, c.remove.ensures.len, at.passes.ok.0)) c.remove.ensures.value c.remove.ensures.items in
    let here = subst (AreAt c.args.channel.now) first at.invariant.1 in (
      subst (λ b. IsLooking b c.args.passes.now.items c.push_reserved.new.self.items (at.counter + 1)) (sym c.both-over.ensures)
          (looking_more at.over c.look_one-pass.result.1 c.args.passes.now.items at.passes.items c.remove.new.self.items c.push_reserved.new.self.items c.remove.result c.look_one-pass.result.0 at.counter at.invariant.0
          (omega (arith, c.loop-test.true, at.invariant.4, c.args.passes.now.ok.0)) first c.look_one-pass.ensures c.push_reserved.ensures.items),
      subst (AreAt c.args.channel.now) (sym c.push_reserved.ensures.items) (push_at c.args.channel.now c.remove.new.self.items c.look_one-pass.result.0 here.1 (looked_at c.args.channel.now c.look_one-pass.result.1 c.remove.result c.look_one-pass.result.0 c.look_one-pass.ensures here.0)),
      omega (arith, c.remove.ensures.len, c.push_reserved.ensures.len, at.invariant.2),
      c.push_reserved.ensures.capacity ∙ c.remove.ensures.capacity ∙ at.invariant.3,
      at.invariant.4,
    )

pub returns-clause-looks : goal.returns-clause-looks
returns-clause-looks g c = looking_all c.loop.over c.args.passes.now.items c.loop.passes.items c.loop.counter c.loop.invariant.0 (omega (arith, c.loop.invariant.4, c.args.passes.now.ok.0))
