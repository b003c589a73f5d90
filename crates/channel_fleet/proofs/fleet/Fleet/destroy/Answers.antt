use Rattle.std.proofs.Common.{[], ◌∷◌, ◌++◌, ap, arith, cond, length, refl}
use Rattle.std.proofs.lemmas.List.{length-map}
use Rattle.channel_fleet.proofs.CallingLemmas.{calls_end, calls_more, calls_none, changed_at, count_more}
use Rattle.channel_model.specs.Meanings.{Destroys}
use Rattle.channel_fleet.proofs.fleet.Fleet.destroy.Goals as goal
use Rattle.channel_fleet.proofs.fleet.Fleet.destroy.Goals.{then-destroy_nth, else-destroy_nth}

pub loop-index-init : goal.loop-index-init
loop-index-init g c = ([], calls_none Destroys c.args.pass.now, refl, c.requires.at, omega arith)

pub loop-index-preserved : goal.loop-index-preserved
loop-index-preserved g c =
    let at = c.loop-index in
    elim c.if-destroy_nth.branch [
      | then-destroy_nth w ↦ (
        at.invariant.0 ++ c.destroy_nth.result ∷ [],
        calls_more Destroys c.destroy_nth.result (omega arith) at.invariant.1 c.destroy_nth.ensures,
        count_more at.invariant.0 c.destroy_nth.result 1 at.count c.if-destroy_nth.count at.invariant.2 (omega (arith, w.count-is)) (ap (λ b. cond b 1 0) w.if-destroy_nth.true),
        changed_at c.destroy_nth.ensures at.invariant.3,
        omega (arith, w.count-is, at.invariant.4),
      )
      | else-destroy_nth w ↦ (
        at.invariant.0 ++ c.destroy_nth.result ∷ [],
        calls_more Destroys c.destroy_nth.result (omega arith) at.invariant.1 c.destroy_nth.ensures,
        count_more at.invariant.0 c.destroy_nth.result 0 at.count c.if-destroy_nth.count at.invariant.2 (omega (arith, w.count-is)) (ap (λ b. cond b 1 0) w.if-destroy_nth.false),
        changed_at c.destroy_nth.ensures at.invariant.3,
        omega (arith, w.count-is, at.invariant.4),
      )
    ]

pub returns : goal.returns
returns g c =
    let at = c.loop-index in (
      at.invariant.0,
      calls_end Destroys at.invariant.1 (omega (arith, c.loop-index-test.false, at.auto.index-end, c.channels-index-end.ensures.count, ap length at.invariant.3, length-map at.pass (λ b. b.pass.lock))),
      at.invariant.2,
    )
