use Rattle.channel_model.specs.Meanings.{Accepts}
use Rattle.ticket_delivery.proofs.OwnerLemmas.{spoken}
use Rattle.ticket_delivery.proofs.owner.AloneCommandDesk.accept_for.Goals as goal

pub returns : goal.returns
returns g c = spoken (Accepts g.T.Token.plan c.args.spec c.args.token c.accept-reply.result) c.args.by c.args.self.now c.voice.new.self c.accept-reply.new.self c.voice-2.new.self c.requires c.voice.ensures c.voice-2.ensures c.accept-reply.ensures.done
