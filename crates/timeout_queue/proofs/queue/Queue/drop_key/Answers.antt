use Rattle.std.proofs.Common.{ap, is_some, sym, ◌∙◌}
use Rattle.timeout_queue.specs.Rows.{is_live}
use Rattle.timeout_queue.proofs.MomentLemmas.{get-seen, seen_taken, drops_live}
use Rattle.timeout_queue.proofs.queue.Queue.drop_key.Goals as goal

-- the key was there: its deadline is live no longer
pub remove-requires-in-Some : goal.remove-requires-in-Some
remove-requires-in-Some c =
    let q = c.self.inside in
    (is_live q.moments, c.self.invariant, drops_live q.moments c.remove.new.self _ _ (sym c.in-Some.ensures.value) c.remove.ensures.updates.0)

pub returns-in-Some-clause-taken : goal.returns-in-Some-clause-taken
returns-in-Some-clause-taken c = seen_taken c.self.inside.moments c.remove.new.self _ c.self.view_is c.args.key c.remove.ensures.updates.0

pub returns-in-Some-clause-was_there : goal.returns-in-Some-clause-was_there
returns-in-Some-clause-was_there c = ap is_some (c.in-Some.ensures.value ∙ sym (get-seen c.self.inside.moments _ c.self.view_is c.args.key))

-- it was not
pub returns-in-None-clause-taken : goal.returns-in-None-clause-taken
returns-in-None-clause-taken c = seen_taken c.self.inside.moments c.remove.new.self _ c.self.view_is c.args.key c.remove.ensures.updates.0

pub returns-in-None-clause-was_there : goal.returns-in-None-clause-was_there
returns-in-None-clause-was_there c = ap is_some (c.in-None.ensures.value ∙ sym (get-seen c.self.inside.moments _ c.self.view_is c.args.key))
