-- What crates above may cite: that calls and deliveries leave a pass settled, and that a new channel whose passes stay so may be finished. Each lemma stands where its name is brought from, with its sentence.
pub use Rattle.shared_channel.proofs.StayLemmas.{all_at, all_stay_more, all_stay_none, all_stayed, each_settled, stays, stays_accept, stays_arrive, stays_cancel, stays_delivery, stays_destroy, stays_more, stays_none, stays_same, stays_start}
-- How a pass goes on, and that fates stay.
pub use Rattle.shared_channel.proofs.GoingLemmas.{WentOn, fate_later, went_all, went_call, went_delivery, went_destroy, went_none, went_on}
-- Deliveries of several requests leave a pass settled too.
pub use Rattle.shared_channel.proofs.DeliverLemmas.{spends_more, stays_deliveries, takes_more, went_deliveries_up_to}
-- Commands that were performed through a pass.
pub use Rattle.ticket_delivery.proofs.Theorems.{performs_more, performs_none}
-- The calls by which attempts expire and fail, servers are set, and those that look, leave a pass settled too.
pub use Rattle.shared_channel.proofs.CallLemmas.{stays_busy, stays_counts, stays_due, stays_expire, stays_fault, stays_servers}
-- A runner over a place: turns and pauses leave its pass settled too, by how its desk goes on.
pub use Rattle.shared_channel.proofs.RunnerLemmas.{stays_looks, stays_turns, went_as_desk}
-- Passes that were taken from the row of a new channel's passes, and came back to it.
pub use Rattle.shared_channel.proofs.BackLemmas.{may_finish, one_back}
-- A pass may go to another thread, a channel may be lent to several, and a closure may go where what it holds may: for callbacks that are scripts and a journal that is kept. `SendLemmas` and `ClosureLemmas` say it for any body and any journal that may go there.
pub use Rattle.shared_channel.proofs.ScriptLemmas.{Own, callback_send, channel_sync, lent, lent_send, pass_send}
pub use Rattle.shared_channel.proofs.ClosureLemmas.{tuple_send}
-- Of all answers in the end, those with a request's number are one, its fate.
pub use Rattle.shared_channel.proofs.AnswerLemmas.{answer_of}
