use Rattle.channel_model.specs.Meanings.{Destroys}
use Rattle.ticket_delivery.proofs.OwnerLemmas.{spoken}
use Rattle.ticket_delivery.proofs.owner.AloneCommandDesk.destroy_for.Goals as goal

pub returns : goal.returns
returns g c = spoken (Destroys c.destroy-is_first.result) c.args.by c.args.self.now c.voice.new.self c.destroy-is_first.new.self c.voice-2.new.self c.requires c.voice.ensures c.voice-2.ensures c.destroy-is_first.ensures.done
