use Rattle.owner_session.proofs.ClosingLemmas.{closes}
use Rattle.owner_session.proofs.KeepLemmas.{keeps_closed}
use Rattle.owner_session.proofs.closing.close.Goals as goal

pub returns : goal.returns
returns g c = record {
  closes = closes c.destroy.result _ _ _ c.requires.idle c.destroy.ensures.done c.deliver_all.ensures.delivers c.deliver_all.ensures.none_ready;
  places = keeps_closed g.B.Done.name g.B.Done.told c.destroy.result _ _ _ c.requires.idle c.destroy.ensures.done c.deliver_all.ensures.places;
}
