-- What a pool hands about may go to another thread where callbacks' bodies may: tickets that know their channel, and places with their orders.
use denote.RattleType.{RattleType}
use denote.Param.Send.{IsSend, IsSync, recorded_send, sendable, struct_send, view_send}
use denote.Ref.{NamedLft}
use denote.Struct.Declared.{shape}
use Rattle.channel_journal.specs.contracts.kept.KeptJournal as Kept
use Rattle.channel_journal.specs.contracts.kept.KeptJournalChannelJournal.TheImpl as KeptImpl
use Rattle.completion_ticket.specs.declared.done.Done as done
use Rattle.pooled_places.specs.contracts.deliverer.Deliverer as Deliverer
use Rattle.pooled_places.specs.contracts.ticket.ChannelTicket as ChannelTicket
use Rattle.pooled_places.specs.contracts.ticket.ChannelTicket.TheInside as within
use Rattle.shared_channel.proofs.SendLemmas as any
use Rattle.shared_channel.specs.contracts.channel.Channel as Channel
use Rattle.shared_channel.specs.contracts.place.Place as Place

module _ (B : RattleType) (g : done.Ghosts B.Denot) (b : IsSend B) where
  lent_channel : IsSync (Channel.the_row B Kept.the_row g KeptImpl.ghosts)
  lent_channel = any.channel_sync B g b Kept.the_row KeptImpl.ghosts any.kept_send

  -- a ticket that knows its channel
  module _ (κ : NamedLft) where
    within_send : IsSend (within.the_row κ B g)
    within_send = recorded_send (within.the_field κ B g).row _ _ (within.the_type κ B g).to_one (struct_send (shape (within.the_type κ B g)) (search (lent_channel, sendable) depth 20 fits 20000, (any.ticket_field_send B g b, tt)))

    pub channel_ticket_send : IsSend (ChannelTicket.the_row κ B g)
    channel_ticket_send = view_send (within.the_row κ B g) _ _ _ _ within_send

  module _ (κ : NamedLft) (R : RattleType) (handle : IsSync R) where
    placed : IsSend (Place.the_row κ B R Kept.the_row g KeptImpl.ghosts)
    placed = any.place_send B g b Kept.the_row KeptImpl.ghosts any.kept_send κ R handle

    -- a place with its orders
    pub deliverer_send : IsSend (Deliverer.the_row κ B R g)
    deliverer_send = recorded_send (Deliverer.the_field κ B R g).row _ _ (Deliverer.the_type κ B R g).to_one (struct_send (shape (Deliverer.the_type κ B R g)) (search (placed, any.plain, sendable) depth 60 fits 20000))
