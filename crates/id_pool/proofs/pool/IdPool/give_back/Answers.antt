use Rattle.std.proofs.Common.{◌≡◌, ◌-◌, true, subst, sym, ap, ◌∙◌, arith}
use Rattle.std.specs.FinSet as set
use Rattle.id_pool.specs.Bitmap.{Changes}
use Rattle.id_pool.specs.Identifiers.{Identifiers}
use Rattle.id_pool.specs.Levels.{ids_unset}
use Rattle.id_pool.proofs.PoolLemmas.{remove_absent, some_used, given_back, counted_given_back}
use Rattle.id_pool.proofs.pool.IdPool.give_back.Goals as goal

-- it isn't in use
pub returns-then-not-is_used-clause-given_back : goal.returns-then-not-is_used-clause-given_back
returns-then-not-is_used-clause-given_back c = remove_absent _ _ (sym c.is_used.ensures ∙ c.if-not-is_used.true)

pub overflow_sub-self : goal.overflow_sub-self
overflow_sub-self c =
    let kept = c.self.invariant in
    let used : set.contains (ids_unset c.self.inside.free.flags.items) c.args.id ≡ true =
    ap (λ (ids : Identifiers). set.contains ids c.args.id) c.self.view_is ∙ sym c.is_used.ensures ∙ c.if-not-is_used.false in
    omega (arith, kept.count, some_used (ids_unset c.self.inside.free.flags.items) c.args.id used)

-- its flag is set
pub invariant_of-self : goal.invariant_of-self
invariant_of-self c =
    let old = c.self.inside.free.flags.items in
    let kept = c.self.invariant in
    let changes : Changes old c.set.new.self.flags.items c.args.id true =
    subst (λ place. Changes old c.set.new.self.flags.items place true) c.from.ensures c.set.ensures.changes in
    let used : set.contains (ids_unset old) c.args.id ≡ true =
    ap (λ (ids : Identifiers). set.contains ids c.args.id) c.self.view_is ∙ sym c.is_used.ensures ∙ c.if-not-is_used.false in
    record {
      levels = c.set.ensures.levels;
      count = ap (λ n. n - 1) kept.count ∙ sym (counted_given_back old c.set.new.self.flags.items c.args.id c.ranges.id.fits changes used);
    }

pub returns-clause-given_back : goal.returns-clause-given_back
returns-clause-given_back c =
    let old = c.self.inside.free.flags.items in
    let changes : Changes old c.set.new.self.flags.items c.args.id true =
    subst (λ place. Changes old c.set.new.self.flags.items place true) c.from.ensures c.set.ensures.changes in
    given_back old c.set.new.self.flags.items c.args.id c.ranges.id.fits changes
    ∙ ap (λ (ids : Identifiers). set.remove ids c.args.id) c.self.view_is
