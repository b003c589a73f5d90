use Rattle.std.proofs.Common.{refl}
use Rattle.channel_fleet.proofs.CallingLemmas.{calls_pass}
use Rattle.channel_fleet.proofs.SteerLemmas.{goes_publish}
use Rattle.channel_model.specs.Meanings.{TellsCounts}
use Rattle.channel_fleet.proofs.steersman.Steersman.publish_counts.Goals as goal

pub returns-clause-goes : goal.returns-clause-goes
returns-clause-goes g c =
    goes_publish _ _ c.tell.result (record { turns = c.made.result; counts = c.counts.result }) _ _
    (record { counts = calls_pass (TellsCounts c.counts.result) c.args.self.now.caller c.counts.new.self c.counts.ensures.done; turns_are = c.made.ensures; turning = refl; looked = refl }) c.tell.ensures
