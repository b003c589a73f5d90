use Rattle.std.proofs.Common.{◌∙◌, ap, refl}
use Rattle.channel_fleet.proofs.FrontLemmas.{looks_more, looks_none}
use Rattle.shared_channel.specs.Passes.{PassView}
use Rattle.channel_fleet.proofs.settling.finish_serve.Goals as goal

pub loop-init : goal.loop-init
loop-init g c = (λ turns began is. is, refl, c.requires.helm, looks_none c.args.pass.now, c.requires.pass)

pub returns-then-over-clause-looked : goal.returns-then-over-clause-looked
returns-then-over-clause-looked g c = looks_more c.args.pass.now c.loop.pass c.look-over.new.pass c.loop.invariant.3 c.look-over.ensures.looks

pub loop-preserved : goal.loop-preserved
loop-preserved g c =
    let at = c.loop.invariant in (
      λ turns began is. c.steer_on.ensures.serves turns began (at.0 turns began is),
      c.steer_on.ensures.origin ∙ at.1,
      c.steer_on.ensures.at,
      looks_more c.args.pass.now c.loop.pass c.look-over.new.pass at.3 c.look-over.ensures.looks,
      ap (λ (p : PassView). p.lock) c.look-over.ensures.looks.same ∙ at.4,
    )
