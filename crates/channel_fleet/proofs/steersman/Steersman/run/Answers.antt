use Rattle.std.proofs.Common.{◌∙◌}
use Rattle.channel_fleet.proofs.SteerLemmas.{goes_next}
use Rattle.channel_fleet.specs.Steersmen.{man_at}
use Rattle.channel_fleet.proofs.steersman.Steersman.run.Goals as goal

pub returns-in-Some-ends_with-clause-goes : goal.returns-in-Some-ends_with-clause-goes
returns-in-Some-ends_with-clause-goes g c = goes_next (man_at c.args.self.now) (man_at c.loop.self) (man_at c.go_round.new.self) c.loop.invariant.1.0 c.loop.invariant.1.1 c.loop.invariant.0 c.go_round.ensures.goes

pub loop-preserved : goal.loop-preserved
loop-preserved g c = (
  goes_next (man_at c.args.self.now) (man_at c.loop.self) (man_at c.go_round.new.self) c.loop.invariant.1.0 c.loop.invariant.1.1 c.loop.invariant.0 c.go_round.ensures.goes,
  (c.go_round.ensures.same.0 ∙ c.loop.invariant.1.0, c.go_round.ensures.same.1 ∙ c.loop.invariant.1.1),
  c.go_round.ensures.origin ∙ c.loop.invariant.2,
)
