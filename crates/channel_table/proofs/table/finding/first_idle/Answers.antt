use Rattle.channel_table.proofs.Base.{subst, sym, ◌<◌, AllByRecursion, Legs, IsListed}
use Rattle.std.specs.FinSet as set
use Rattle.channel_table.proofs.ListedLemmas.{dropped, fewer_wait, found_idle, none_listed}
use Rattle.channel_table.proofs.table.finding.first_idle.Goals as goal

pub returns-in-Some-idle_with-clause-found : goal.returns-in-Some-idle_with-clause-found
returns-in-Some-idle_with-clause-found g c =
    found_idle c.loop-first.waiting c.in-Some.first c.args.rows.now.items c.in-Some-idle_with.idle c.in-Some.ensures c.requires.rising c.loop-first.invariant c.in-Some-idle_with.ensures

pub loop-first-smaller : goal.loop-first-smaller
loop-first-smaller g c =
    subst (λ (legs : Legs). set.len legs < set.len c.loop-first.waiting) (sym c.drop_first.ensures) (fewer_wait c.loop-first.waiting c.in-Some.first c.in-Some.ensures.there)

pub loop-first-preserved : goal.loop-first-preserved
loop-first-preserved g c =
    subst (λ (legs : Legs). AllByRecursion (IsListed legs) c.args.rows.now.items) (sym c.drop_first.ensures) (dropped c.loop-first.waiting c.in-Some.first c.args.rows.now.items c.loop-first.invariant c.in_default-idle_with.ensures)

pub returns-clause-found : goal.returns-clause-found
returns-clause-found g c = none_listed c.args.rows.now.items (subst (λ (legs : Legs). AllByRecursion (IsListed legs) c.args.rows.now.items) c.in_default.ensures c.loop-first.invariant)
