use Rattle.channel_fleet.proofs.SteerLemmas.{goes_next}
use Rattle.channel_fleet.specs.Steersmen.{man_at}
use Rattle.channel_fleet.proofs.steersman.Steersman.go_round.Goals as goal

pub returns-then-turn_on-clause-goes : goal.returns-then-turn_on-clause-goes
returns-then-turn_on-clause-goes g c =
    goes_next (man_at c.args.self.now) (man_at c.deliver_first.new.self) (man_at c.turn_on.new.self) c.deliver_first.ensures.same.0 c.deliver_first.ensures.same.1 c.deliver_first.ensures.goes
    (goes_next (man_at c.deliver_first.new.self) (man_at c.publish_counts.new.self) (man_at c.turn_on.new.self) c.publish_counts.ensures.same.0 c.publish_counts.ensures.same.1 c.publish_counts.ensures.goes c.turn_on.ensures.goes)

pub returns-clause-goes : goal.returns-clause-goes
returns-clause-goes g c =
    goes_next (man_at c.args.self.now) (man_at c.deliver_first.new.self) (man_at c.turn_on.new.self) c.deliver_first.ensures.same.0 c.deliver_first.ensures.same.1 c.deliver_first.ensures.goes
    (goes_next (man_at c.deliver_first.new.self) (man_at c.publish_counts.new.self) (man_at c.turn_on.new.self) c.publish_counts.ensures.same.0 c.publish_counts.ensures.same.1 c.publish_counts.ensures.goes c.turn_on.ensures.goes)
