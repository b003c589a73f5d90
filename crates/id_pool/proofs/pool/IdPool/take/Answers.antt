use Rattle.std.proofs.Common.{◌≡◌, ◌+◌, false, subst, sym, ap, ◌∙◌, arith}
use Rattle.std.specs.FinSet as set
use Rattle.id_pool.specs.Bitmap.{Changes}
use Rattle.id_pool.specs.Identifiers.{Identifiers}
use Rattle.id_pool.specs.Levels.{ids_unset}
use Rattle.id_pool.proofs.PoolLemmas.{insert_present, len-unset, taken, counted_taken}
use Rattle.id_pool.proofs.pool.IdPool.take.Goals as goal

-- it is in use already
pub returns-then-is_used-clause-taken : goal.returns-then-is_used-clause-taken
returns-then-is_used-clause-taken c = insert_present _ _ (sym c.is_used.ensures ∙ c.if-is_used.true)

pub overflow_add-self : goal.overflow_add-self
overflow_add-self c =
    let kept = c.self.invariant in
    record { fits = omega (arith, kept.count, len-unset c.self.inside.free.flags.items) }

-- its flag is cleared
pub invariant_of-self : goal.invariant_of-self
invariant_of-self c =
    let old = c.self.inside.free.flags.items in
    let kept = c.self.invariant in
    let changes : Changes old c.clear.new.self.flags.items c.args.id false =
    subst (λ place. Changes old c.clear.new.self.flags.items place false) c.from.ensures c.clear.ensures.changes in
    let free : set.contains (ids_unset old) c.args.id ≡ false =
    ap (λ (ids : Identifiers). set.contains ids c.args.id) c.self.view_is ∙ sym c.is_used.ensures ∙ c.if-is_used.false in
    record {
      levels = c.clear.ensures.levels;
      count = ap (λ n. n + 1) kept.count ∙ sym (counted_taken old c.clear.new.self.flags.items c.args.id c.ranges.id.fits changes free);
    }

pub returns-clause-taken : goal.returns-clause-taken
returns-clause-taken c =
    let old = c.self.inside.free.flags.items in
    let changes : Changes old c.clear.new.self.flags.items c.args.id false =
    subst (λ place. Changes old c.clear.new.self.flags.items place false) c.from.ensures c.clear.ensures.changes in
    taken old c.clear.new.self.flags.items c.args.id c.ranges.id.fits changes
    ∙ ap (λ (ids : Identifiers). set.insert ids c.args.id) c.self.view_is
