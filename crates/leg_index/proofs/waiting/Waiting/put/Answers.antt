use Rattle.std.proofs.Common.{◌++◌, ap, sym, subst, ◌∙◌}
use Rattle.std.specs.FinSet as set
use Rattle.std.proofs.lemmas.Result.{on_ok_weaker}
use Rattle.leg_index.specs.Waiting.{IsRising}
use Rattle.leg_index.proofs.WaitingLemmas.{rising_push, seen_pushed, seen_inserted}
use Rattle.leg_index.proofs.waiting.Waiting.put.Goals as goal

-- behind the row
pub invariant_of-self-then-fits : goal.invariant_of-self-then-fits
invariant_of-self-then-fits c = subst IsRising (sym c.in_ok-push_back.ensures.items) (rising_push c.self.inside.row.items c.args.leg c.self.invariant (c.fits.ensures c.if-fits.true))

pub returns-then-fits-clause-ok : goal.returns-then-fits-clause-ok
returns-then-fits-clause-ok c = ap (λ row. set.from_list (row ++ c.self.inside.rest.keys)) c.in_ok-push_back.ensures.items ∙ seen_pushed c.self.inside.row.items c.self.inside.rest _ c.self.view_is c.args.leg

-- or in the tree
pub returns-clause-ok : goal.returns-clause-ok
returns-clause-ok c = on_ok_weaker c.put_apart.result (λ updates. seen_inserted c.self.inside.row.items c.self.inside.rest _ c.self.view_is c.put_apart.new.rest c.args.leg updates) c.put_apart.ensures.ok
