use Rattle.std.proofs.Common.{◌∙◌, ◌∷◌, ◌++◌, [], ap, arith, length, refl}
use Rattle.std.proofs.lemmas.List.{length-map}
use Rattle.channel_model.specs.Meanings.{Cancels}
use Rattle.channel_fleet.proofs.CallingLemmas.{calls_end, calls_more, calls_none, changed_at, sum_more}
use Rattle.channel_fleet.proofs.fleet.Fleet.cancel.Goals as goal

pub loop-index-init : goal.loop-index-init
loop-index-init g c = ([], calls_none Cancels c.args.pass.now, refl, c.requires.at)

pub loop-index-preserved : goal.loop-index-preserved
loop-index-preserved g c =
    let at = c.loop-index in (
      at.invariant.0 ++ c.cancel_nth.result ∷ [],
      calls_more Cancels c.cancel_nth.result (omega arith) at.invariant.1 c.cancel_nth.ensures,
      c.saturating_add-count.ensures ∙ sum_more at.invariant.0 c.cancel_nth.result at.count at.invariant.2,
      changed_at c.cancel_nth.ensures at.invariant.3,
    )

pub returns : goal.returns
returns g c =
    let at = c.loop-index in (
      at.invariant.0,
      calls_end Cancels at.invariant.1 (omega (arith, c.loop-index-test.false, at.auto.index-end, c.channels-index-end.ensures.count, ap length at.invariant.3, length-map at.pass (λ b. b.pass.lock))),
      at.invariant.2,
    )
