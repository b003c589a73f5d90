use Rattle.std.proofs.Common.{ap, sym, ◌∙◌}
use Rattle.std.specs.FinSet as set
use Rattle.std.specs.Ordering.{nat_cmp}
use Rattle.id_pool.proofs.PoolLemmas.{none_used}
use Rattle.id_pool.proofs.pool.IdPool.make.Goals as goal

-- all flags are set
pub invariant_of-result : goal.invariant_of-result
invariant_of-result c = record {
  levels = c.in_ok-free.ensures.0;
  count = sym (ap set.len (none_used c.in_ok-free.free.flags.items c.in_ok-free.ensures.1) ∙ set.len-empty nat_cmp);
}

pub returns : goal.returns
returns c = none_used c.in_ok-free.free.flags.items c.in_ok-free.ensures.1
