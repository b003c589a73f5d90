use Rattle.channel_fleet.proofs.StayLemmas.{one_at}
use Rattle.channel_fleet.proofs.UseLemmas.{uses_stay}
use Rattle.channel_fleet.proofs.serving.FrontPartPart.run.Goals as goal

pub invariant_of-self : goal.invariant_of-self
invariant_of-self g c = record { at = one_at c.args.self.now.fleet.now c.args.self.now.pass c.act.new.pass (uses_stay c.args.self.now.pass c.act.new.pass c.act.ensures.uses) c.args.self.now.at }
