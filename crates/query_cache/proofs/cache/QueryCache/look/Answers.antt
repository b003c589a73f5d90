use Rattle.std.proofs.Common.{refl, ap, sym, subst, ◌∙◌}
use Rattle.std.specs.Prelude.{slice_get}
use Rattle.query_cache.specs.Cache.{entry_of, used_if, given}
use Rattle.query_cache.specs.Key.{AreByKey, shown}
use Rattle.query_cache.proofs.KeyLemmas.{hit_by_key, hit_shown, hit_first, hit_some, miss_gives}
use Rattle.query_cache.proofs.cache.QueryCache.look.Goals as goal

-- a miss
pub returns-then-not-is_good : goal.returns-then-not-is_good
returns-then-not-is_good c =
    let held = c.self.inside.kept in (
      (refl, λ _. tt, c.self.view_is),
      record { gives = miss_gives c.args.asked.now c.set.new.self c.in_ok-set.ensures held c.self.invariant c.is_good.ensures.valid c.args.at (sym c.is_good.ensures.good ∙ c.if-not-is_good.true) ∙ ap (given c.args.asked.now c.args.at) c.self.view_is; after = tt },
    )

-- a hit
pub invariant_of-self-2 : goal.invariant_of-self-2
invariant_of-self-2 c =
    let held = c.self.inside.kept in
    subst (λ h. AreByKey h.entries) (sym c.promote.ensures.entries)
    (hit_by_key c.args.asked.now c.set.new.self c.in_ok-set.ensures held c.self.invariant c.is_good.ensures.valid c.args.at (sym c.is_good.ensures.good ∙ c.if-not-is_good.false))

pub returns-in-Some : goal.returns-in-Some
returns-in-Some c =
    let held = c.self.inside.kept in
    let good = sym c.is_good.ensures.good ∙ c.if-not-is_good.false in (
      (
        refl,
        λ _. tt,
        ap (shown c.self.inside.most) c.promote.ensures.entries
            ∙ hit_shown c.args.asked.now c.set.new.self c.in_ok-set.ensures held c.self.invariant c.is_good.ensures.valid c.args.at good c.self.inside.most
            ∙ ap (λ v. used_if (entry_of c.args.asked.now v.entries) v) c.self.view_is,
      ),
      record {
        gives = hit_first c.args.asked.now c.set.new.self c.in_ok-set.ensures held c.self.invariant c.is_good.ensures.valid c.args.at good c.in-Some.field-0-0.now c.in-Some.kept.now (c.in-Some.ensures ∙ ap (λ h. slice_get h.entries 0) c.promote.ensures.entries)
            ∙ ap (given c.args.asked.now c.args.at) c.self.view_is;
        after = tt;
      },
    )

pub returns-in-None : goal.returns-in-None
returns-in-None c =
    let held = c.self.inside.kept in
    let good = sym c.is_good.ensures.good ∙ c.if-not-is_good.false in
    absurd (hit_some c.args.asked.now c.set.new.self c.in_ok-set.ensures held c.self.invariant c.is_good.ensures.valid c.args.at good (c.in-None.ensures ∙ ap (λ h. slice_get h.entries 0) c.promote.ensures.entries))
