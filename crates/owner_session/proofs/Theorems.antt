-- What crates above may cite. Each lemma stands where its name is brought from, with its sentence.
-- How a session comes to its end, by how its turns ended, and which position is the last at which a command may be performed.
pub use Rattle.owner_session.proofs.EndLemmas.{Came, bad_of, came, end_known, good_of, last_other, last_page, page_of_end, paged, served_ok, stall_of, unlost, wait_of}
-- No bodies were asked where there is no channel, and what holds of bodies holds of those behind the first.
pub use Rattle.owner_session.proofs.PlaceLemmas.{none_back}
pub use Rattle.owner_session.proofs.AcceptLemmas.{each_behind}
-- A journal that sets no servers.
pub use Rattle.owner_session.proofs.ThenLemmas.{at_most_none}
-- Tests of lists, and what holds of each item.
pub use Rattle.owner_session.proofs.ListLemmas.{all_pass, each_of, none_of}
