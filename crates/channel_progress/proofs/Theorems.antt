-- What crates above may cite of this crate's lemmas. The other files of this folder may change at any time.

-- a run that stalled made few turns: in any case, where requests are accepted before the first turn alone, by the number of requests, and where at most one is accepted
pub use Rattle.channel_progress.proofs.StalledLemmas.{stalled_any, stalled_first, stalled_many, stalled_one}
-- the same, where the clock was read beside the turns; and a run at whose journal's end a request is pending has stalled
pub use Rattle.channel_progress.proofs.StalledLemmas.{beside_any, beside_many}
pub use Rattle.channel_progress.proofs.BesideLemmas.{stalled_at_end}
-- in a longer journal requests may spend as many attempts
pub use Rattle.channel_progress.proofs.GrowLemmas.{allowed_grows}
-- no more requests are accepted unprompted than are accepted
pub use Rattle.channel_progress.proofs.PromptedLemmas.{unprompted_few}
-- where no servers are set, a leg may spend so many attempts as at the beginning; and no entries take back the most servers in use, nor the times that they were set
pub use Rattle.channel_progress.proofs.MostLemmas.{attempts_stay, in_use_most-later, times_set-later}
-- where no wait failed, the last didn't
pub use Rattle.channel_progress.proofs.FailedLemmas.{not_failed}
