use Rattle.channel_model.specs.Meanings.{Cancels}
use Rattle.ticket_delivery.proofs.OwnerLemmas.{spoken}
use Rattle.ticket_delivery.proofs.owner.AloneCommandDesk.cancel_for.Goals as goal

pub returns : goal.returns
returns g c = spoken (Cancels c.cancel-count.result) c.args.by c.args.self.now c.voice.new.self c.cancel-count.new.self c.voice-2.new.self c.requires c.voice.ensures c.voice-2.ensures c.cancel-count.ensures.done
