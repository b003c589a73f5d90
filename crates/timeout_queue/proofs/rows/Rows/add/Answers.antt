use Rattle.std.proofs.Common.{refl}
use Rattle.std.proofs.lemmas.Result.{on_ok_weaker}
use Rattle.timeout_queue.specs.Rows.{is_live}
use Rattle.timeout_queue.proofs.RowsLemmas.{have_in_row, have_in_other, have_in_rest}
use Rattle.timeout_queue.proofs.rows.Rows.add.Goals as goal

-- behind the first row
pub returns-then-fits-clause-ok : goal.returns-then-fits-clause-ok
returns-then-fits-clause-ok c = on_ok_weaker c.push.result (λ ext after adds. have_in_row (is_live c.args.moments.now) c.args.self.now _ c.requires c.args.deadline after adds ext refl refl) c.push.ensures.ok

-- behind the second one
pub returns-then-fits-2-clause-ok : goal.returns-then-fits-2-clause-ok
returns-then-fits-2-clause-ok c = on_ok_weaker c.push-then-fits-2.result (λ ext after adds. have_in_other (is_live c.args.moments.now) c.args.self.now _ c.requires c.args.deadline after adds ext refl refl) c.push-then-fits-2.ensures.ok

-- or in the tree
pub returns-clause-ok : goal.returns-clause-ok
returns-clause-ok c = λ after adds. have_in_rest (is_live c.args.moments.now) c.args.self.now _ c.requires c.args.deadline after adds c.in_ok-insert.ensures.updates refl refl
