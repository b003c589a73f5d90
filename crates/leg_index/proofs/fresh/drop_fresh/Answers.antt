use Rattle.std.proofs.Common.{◌≡◌, Some, ap, sym, subst, ◌∙◌, arith}
use Rattle.std.specs.List.{remove}
use Rattle.std.specs.Option.{OnSome}
use Rattle.leg_index.specs.Flights.{AreDistinct, Loses, leg_in_row}
use Rattle.leg_index.proofs.FlightLemmas.{leg_found, loses_found, distinct_found}
use Rattle.leg_index.proofs.fresh.drop_fresh.Goals as goal

pub returns-in-Some-clause-leg : goal.returns-in-Some-clause-leg
returns-in-Some-clause-leg c = ap (λ f. Some f.leg) c.index.ensures ∙ leg_found c.args.id c.args.fresh.now.items c.in-Some.index c.in-Some.ensures c.index.result.now

-- the attempt at the index is taken out
pub returns-in-Some-clause-distinct : goal.returns-in-Some-clause-distinct
returns-in-Some-clause-distinct c =
    let removed = subst (λ r. OnSome r (c.remove.new.self.items ≡ remove c.args.fresh.now.items c.in-Some.index)) (c.remove.ensures.succeeds c.index.result.now (omega (arith, c.in-Some.ensures.inside, c.args.fresh.now.ok.0))) c.remove.ensures.items in
    subst AreDistinct (sym removed) (distinct_found c.args.id c.args.fresh.now.items c.in-Some.index c.requires c.in-Some.ensures)

pub returns-in-Some-clause-left : goal.returns-in-Some-clause-left
returns-in-Some-clause-left c =
    let removed = subst (λ r. OnSome r (c.remove.new.self.items ≡ remove c.args.fresh.now.items c.in-Some.index)) (c.remove.ensures.succeeds c.index.result.now (omega (arith, c.in-Some.ensures.inside, c.args.fresh.now.ok.0))) c.remove.ensures.items in
    subst (λ fs. Loses c.args.id (λ q. leg_in_row q c.args.fresh.now.items) (λ q. leg_in_row q fs)) (sym removed) (loses_found c.args.id c.args.fresh.now.items c.in-Some.index c.requires c.in-Some.ensures)
