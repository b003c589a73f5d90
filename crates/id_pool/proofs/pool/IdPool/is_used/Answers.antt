use Rattle.std.proofs.Common.{ap, sym, not, ◌∙◌}
use Rattle.std.specs.FinSet as set
use Rattle.id_pool.specs.Bitmap.{flag}
use Rattle.id_pool.specs.Identifiers.{Identifiers}
use Rattle.id_pool.proofs.PoolLemmas.{contains-unset}
use Rattle.id_pool.proofs.pool.IdPool.is_used.Goals as goal

pub returns : goal.returns
returns c =
    let flags = c.self.inside.free.flags.items in
    ap not (c.has.ensures ∙ ap (flag flags) c.from.ensures) ∙ sym (contains-unset flags c.args.id c.ranges.id.fits)
    ∙ ap (λ (ids : Identifiers). set.contains ids c.args.id) c.self.view_is
