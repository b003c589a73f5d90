use Rattle.std.proofs.Common.{subst, sym}
use Rattle.channel_fleet.proofs.FrontLemmas.{looks_counts}
use Rattle.channel_fleet.specs.Fronts.{LooksOn}
use Rattle.channel_fleet.proofs.settling.look_through.Goals as goal

pub returns-clause-looks : goal.returns-clause-looks
returns-clause-looks g c =
    subst (LooksOn c.args.pass) (sym c.leave.ensures)
    (subst (λ p. LooksOn p c.counts-counts.new.self) c.place-place.ensures (looks_counts c.counts-counts.result c.place-place.result c.counts-counts.new.self c.counts-counts.ensures.done))
