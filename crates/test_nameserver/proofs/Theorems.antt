-- What crates above may cite of this crate's lemmas. The other files of this folder may change at any time.

-- a network that was made of a zone and a seed told a log of them, and so did one before its first call
pub use Rattle.test_nameserver.proofs.LogLemmas.{log_of_none, log_told}
-- what such a network does from call to call: its clock, what can be received, how a wait ends, and what is received then
pub use Rattle.test_nameserver.proofs.WakingLemmas.{clock_goes_on, is_woken, receives_some, stays_some, still_may_come, woken_well}
