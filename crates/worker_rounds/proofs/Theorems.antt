-- What crates above may cite: how places go on by a pump's steps and by tickets that are spent; that a call of a desk that adds nothing is such a step's.
pub use Rattle.worker_rounds.proofs.GoingLemmas.{as_owner, desk_same, free_goes, free_takes, freely_more, looked_freely, looks_freely, owner_more, spend_goes, spends_go, still_freely, worker_more, worker_takes}
-- What a course of the owner's deeds comes to at its place.
pub use Rattle.worker_rounds.proofs.CourseLemmas.{ComesTo, course_comes, fates_stay}
-- The owner may go to another thread.
pub use Rattle.worker_rounds.proofs.SendLemmas.{keeper_send}
-- Behind rounds a channel's passes are the same still, and no ticket is outside if none was before: so it may be finished.
pub use Rattle.worker_rounds.proofs.SettledLemmas.{owner_goes, serves_settled, serves_still}
