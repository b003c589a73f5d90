-- What crates above may cite of this crate's lemmas. The other files of this folder may change at any time.

-- each address has a rank among the destinations, and ranks decide which is before which
pub use Rattle.dest_sorting.proofs.RankLemmas.{rank_cmp, ranks_decide}
