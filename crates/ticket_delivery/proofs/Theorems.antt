-- What crates above may cite. Each lemma stands where its name is brought from, with its sentence.
-- Commands that were performed through a desk: none, and some behind others; and through another that knows the same of its channel.
pub use Rattle.ticket_delivery.proofs.PerformLemmas.{command_takes, performs_home, performs_more, performs_none}
-- Behind any position at which a command was performed stands no more than the journal, and an earlier one serves as well.
pub use Rattle.ticket_delivery.proofs.PerformLemmas.{behind_end, earlier, positions-append}
-- What a channel's one owner performed: all that came to the journal.
pub use Rattle.ticket_delivery.proofs.OwnerLemmas.{IsCommanded, all_commanded, all_entries, all_handed_on, own_since}
-- Deliveries come to their end: a request that is taken takes more weight away than what its callback commands brings.
pub use Rattle.ticket_delivery.proofs.WeightLemmas.{entries_weigh, gives_less, take_weighs}
-- What stays behind further entries: a fate, and that a channel was destroyed, in which nothing is pending.
pub use Rattle.ticket_delivery.proofs.LaterLemmas.{destroyed_later, destroyed_pending, fate_behind}
