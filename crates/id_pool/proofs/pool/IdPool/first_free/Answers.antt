use Rattle.std.proofs.Common.{ℕ, sym, subst}
use Rattle.std.specs.FinSet as set
use Rattle.std.specs.Slice.Scan.{HoldsNowhere}
use Rattle.id_pool.specs.Bitmap.{flag, IsFirst}
use Rattle.id_pool.specs.Identifiers.{Identifiers, AllUsed, IsFirstFree}
use Rattle.id_pool.specs.Levels.{ids_unset}
use Rattle.id_pool.proofs.PoolLemmas.{all_used, free_upwards, free_around}
use Rattle.id_pool.proofs.pool.IdPool.first_free.Goals as goal
use Rattle.id_pool.proofs.pool.IdPool.first_free.Goals.{in-Some, in-None+in_ok-id-in-None}

-- no flag is set
pub returns-in_err-id-in-None : goal.returns-in_err-id-in-None
returns-in_err-id-in-None c =
    rw c.from_residual.ensures (subst (λ (ids : Identifiers). AllUsed (set.contains ids)) c.self.view_is (all_used c.self.inside.free.flags.items c.in_err-id-in-None.ensures))

pub returns : goal.returns
returns c =
    let flags = c.self.inside.free.flags.items in
    let Is : ℕ → Type 0 = IsFirstFree (set.contains (ids_unset flags)) c.args.word in
    subst (λ (ids : Identifiers). IsFirstFree (set.contains ids) c.args.word c.match-first_from.id) c.self.view_is
    (elim c.match-first_from.branch [
      | in-Some w ↦
          subst Is (sym w.id-is) (free_upwards flags c.args.word _
          (subst (λ from. IsFirst (flag flags) from 65536 w.in-Some.id) c.from.ensures w.in-Some.ensures))
      | in-None+in_ok-id-in-None w ↦
          subst Is (sym w.id-is) (free_around flags c.args.word _ c.ranges.word.fits
          (subst (λ from. HoldsNowhere (flag flags) from 65536) c.from.ensures w.in-None.ensures) w.in_ok-id-in-None.ensures)
    ])
