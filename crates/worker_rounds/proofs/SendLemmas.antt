-- The owner of a channel may go to another thread where callbacks' bodies may, and what is done while nothing is ready.
use denote.RattleType.{RattleType}
use denote.Param.Send.{IsSend, IsSync, recorded_send, sendable, struct_send}
use denote.Ref.{NamedLft}
use denote.Struct.Declared.{shape}
use Rattle.channel_journal.specs.contracts.kept.KeptJournal as Kept
use Rattle.channel_journal.specs.contracts.kept.KeptJournalChannelJournal.TheImpl as KeptImpl
use Rattle.completion_ticket.specs.declared.done.Done as done
use Rattle.pooled_places.specs.contracts.deliverer.Deliverer as Deliverer
use Rattle.shared_channel.proofs.SendLemmas as any
use Rattle.shared_channel.specs.contracts.channel.Channel as Channel
use Rattle.shared_channel.specs.contracts.place.Place as Place
use Rattle.worker_rounds.specs.contracts.keeper.Keeper as Keeper

module _ (B : RattleType) (g : done.Ghosts B.Denot) (b : IsSend B) (κ : NamedLft) (P : RattleType) (p : IsSend P) (R : RattleType) (handle : IsSync R) where
  lent_channel : IsSync (Channel.the_row B Kept.the_row g KeptImpl.ghosts)
  lent_channel = any.channel_sync B g b Kept.the_row KeptImpl.ghosts any.kept_send

  placed : IsSend (Place.the_row κ B R Kept.the_row g KeptImpl.ghosts)
  placed = any.place_send B g b Kept.the_row KeptImpl.ghosts any.kept_send κ R handle

  -- a place with its orders, field by field
  deliverer_field_send : IsSend (Deliverer.the_field κ B R g).row
  deliverer_field_send = struct_send (shape (Deliverer.the_type κ B R g)) (search (placed, any.plain, sendable) depth 60 fits 20000)

  pub keeper_send : IsSend (Keeper.the_row κ B P R g)
  keeper_send = recorded_send (Keeper.the_field κ B P R g).row _ _ (Keeper.the_type κ B P R g).to_one (struct_send (shape (Keeper.the_type κ B P R g)) (search (lent_channel, sendable) depth 20 fits 20000, (deliverer_field_send, (p, tt))))
