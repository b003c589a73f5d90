-- What crates above may cite: that calls through a fleet's passes leave them settled, and that a new fleet whose passes and helms stayed so may be finished.
pub use Rattle.channel_fleet.proofs.StayLemmas.{all_at_still, all_stay_none, berths_stay_more, berths_stay_none, fleet_may_finish, helms_stay_none, last_at, last_stays, one_at, stays_ask, stays_cancels, stays_destroys, stays_show}
pub use Rattle.channel_fleet.proofs.HelmLemmas.{one_helm, stays_serves}
-- What a front does through the pass that it is lent, and what is left of a serve, so that the fleet may be finished.
pub use Rattle.channel_fleet.proofs.UseLemmas.{uses_ask, uses_cancels, uses_destroys, uses_more, uses_none, uses_show, uses_stay}
pub use Rattle.channel_fleet.proofs.FrontLemmas.{lent_stay}
pub use Rattle.channel_fleet.proofs.HelmLemmas.{new_helms}
pub use Rattle.channel_fleet.proofs.StandLemmas.{served_stay}
