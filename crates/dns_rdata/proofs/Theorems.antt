-- What crates above may cite of this crate's lemmas. The other files of this folder may change at any time.

-- a name that is read from the whole of some bytes is spelled by them
pub use Rattle.dns_rdata.proofs.SpellingLemmas.{name_spelled}
