use Rattle.std.proofs.Common.{◌∙◌, ap}
use Rattle.shared_channel.specs.Passes.{PassView}
use Rattle.pooled_places.proofs.Theorems.{same_pass}
use Rattle.worker_rounds.proofs.keeper.Keeper.is_done.Goals as goal

pub invariant_of-self : goal.invariant_of-self
invariant_of-self g c = record { here = ap (λ (p : PassView). p.lock) (same_pass c.args.self.now.deliverer.place c.is_done.new.desk c.is_done.ensures.goes.goes_on.desk) ∙ c.args.self.now.here }
