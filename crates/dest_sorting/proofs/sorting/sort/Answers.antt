use Rattle.std.proofs.Common.{subst, rules}
use Rattle.std.proofs.lemmas.Fn.{always_returns_same}
use Rattle.net_addr.specs.declared.addr.Addr.{Addr}
use Rattle.dest_sorting.specs.declared.ranks.Rank.{Rank}
use Rattle.dest_sorting.specs.Order.{source_of, IsSortedBy}
use Rattle.dest_sorting.specs.Ranks.{rank_of}
use Rattle.dest_sorting.proofs.RankLemmas.{sorted_by_rank}
use Rattle.dest_sorting.proofs.sorting.sort.Goals as goal

pub returns : goal.returns
returns c =
    let key : Addr → Rank = λ d. rank_of d (source_of c.args.sources.now d) in
    rw c.from_vec.ensures (subst (λ given. IsSortedBy c.args.sources.now given c.sort_by_cached_key.new.self.items) c.in_ok-sorted.ensures.items
    (sorted_by_rank c.args.sources.now c.in_ok-sorted.sorted.items c.sort_by_cached_key.new.self.items c.sort_by_cached_key.ensures.permutation
    (c.in_ok-sort_by_cached_key.ensures.sorted key (always_returns_same _ _ _ (λ a r q k. search rules)))
    (c.sort_by_cached_key.ensures.stable key (always_returns_same _ _ _ (λ a r q k. search rules)))))
