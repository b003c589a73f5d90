use Rattle.std.proofs.Common.{sym, ◌∙◌}
use Rattle.std.proofs.lemmas.Result.{on_ok_weaker, on_err_weaker}
use Rattle.leg_index.specs.Flights.{leg_by_id}
use Rattle.leg_index.proofs.FlightLemmas.{seen_gains, seen_same, free_none, indexed_gains, on_err_always}
use Rattle.leg_index.proofs.flights.Flights.begin.Goals as goal

-- the identifier is in use
pub returns-then-is_used-clause-ok : goal.returns-then-is_used-clause-ok
returns-then-is_used-clause-ok c = on_ok_weaker c.begin_again.result (seen_gains c.self.inside.fresh.items c.self.inside.legs _ c.self.view_is c.begin_again.new.fresh.items c.begin_again.new.legs c.args.id c.args.leg) c.begin_again.ensures.ok

pub returns-then-is_used-clause-err : goal.returns-then-is_used-clause-err
returns-then-is_used-clause-err c = on_err_weaker c.begin_again.result (seen_same c.self.inside.fresh.items c.self.inside.legs _ c.self.view_is c.begin_again.new.fresh.items c.begin_again.new.legs) c.begin_again.ensures.err

-- it isn't, and the attempt stands behind the others
pub add_fresh-requires-clause-free : goal.add_fresh-requires-clause-free
add_fresh-requires-clause-free c = let legs = leg_by_id c.self.inside.fresh.items c.self.inside.legs in free_none c.self.inside.pool legs legs c.self.invariant.taken c.args.id (sym c.is_used.ensures ∙ c.if-is_used.false)

pub invariant_of-self-2 : goal.invariant_of-self-2
invariant_of-self-2 c = indexed_gains c.self.inside.fresh.items c.add_fresh.new.fresh.items c.self.inside.legs c.add_fresh.new.legs c.self.inside.pool c.take.new.self c.self.invariant c.add_fresh.ensures.once c.args.id c.args.leg c.take.ensures.taken c.in_ok-add_fresh.ensures.ok

pub returns-clause-ok : goal.returns-clause-ok
returns-clause-ok c = seen_gains c.self.inside.fresh.items c.self.inside.legs _ c.self.view_is c.add_fresh.new.fresh.items c.add_fresh.new.legs c.args.id c.args.leg c.in_ok-add_fresh.ensures.ok

-- memory is wanting
pub returns-in_err-add_fresh-clause-err : goal.returns-in_err-add_fresh-clause-err
returns-in_err-add_fresh-clause-err c = on_err_always c.from_residual.result (seen_same c.self.inside.fresh.items c.self.inside.legs _ c.self.view_is c.add_fresh.new.fresh.items c.add_fresh.new.legs c.in_err-add_fresh.ensures.err)
