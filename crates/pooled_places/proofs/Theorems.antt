-- What crates above may cite: what is told through a place that spends tickets, and that it stays the same place, at its channel.
pub use Rattle.pooled_places.proofs.DeliveryLemmas.{drains_at, lock_stays, stays_each, told_each, works_at}
-- A ticket that knows its channel, and a place with its orders, may go to other threads, for any body of a callback that may go there. Of passes, channels and closures `SendLemmas` and `ClosureLemmas` of `shared_channel` say it.
pub use Rattle.pooled_places.proofs.SendLemmas.{channel_ticket_send, deliverer_send}
-- From a round to the channel's end: with whom its tickets are, call by call of the sender and round by round of the workers; that in the end none is outside; and that its passes are all of them still.
pub use Rattle.pooled_places.proofs.StandingLemmas.{all_still, crew_stands, crew_still, none_outside, same_pass, sender_new, sender_quiet, sender_sends, sender_spends, sender_stops, sender_takes, still_all, still_more, still_none, worker_new, worker_works}
