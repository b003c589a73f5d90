-- A turner over a place, which is a pump, may go to another thread where callbacks' bodies and the network may.
use denote.RattleType.{RattleType}
use denote.Param.Send.{IsSend, IsSync, sendable}
use denote.Ref.{NamedLft}
use Rattle.std.proofs.Crossing.{crosses}
use Rattle.channel_journal.specs.contracts.kept.KeptJournal as Kept
use Rattle.channel_journal.specs.contracts.kept.KeptJournalChannelJournal.TheImpl as KeptImpl
use Rattle.chan_types.specs.declared.token.Token as token
use Rattle.channel_model.specs.declared.desk.Desk as desk
use Rattle.completion_ticket.specs.declared.done.Done as done
use Rattle.net_world.specs.declared.world.World as world
use Rattle.shared_channel.proofs.SendLemmas as any
use Rattle.shared_channel.specs.contracts.place.Place as Place
use Rattle.turner_rounds.proofs.pump.TurnerPump.TheSendSync as pump
use Rattle.turner_rounds.specs.contracts.pump.TurnerPump as TurnerPump

module _ (B : RattleType) (g : done.Ghosts B.Denot) (b : IsSend B) (κ : NamedLft) (R : RattleType) (handle : IsSync R) where
  pub placed : IsSend (Place.the_row κ B R Kept.the_row g KeptImpl.ghosts)
  placed = any.place_send B g b Kept.the_row KeptImpl.ghosts any.kept_send κ R handle

module _ (D W X : RattleType) (d : desk.Ghosts D.Denot X.Denot) (t : token.Ghosts X.Denot) (w : world.Ghosts W.Denot) (p : IsSend D) (q : IsSend W) where
  pub pump_send : IsSend (TurnerPump.the_row D W X d t w)
  pump_send = search (pump.the_send, p, q, crosses, sendable) depth 60 fits 20000
