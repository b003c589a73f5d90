use Rattle.std.proofs.Common.{rules, refl, sym, ap, ◌∙◌}
use Rattle.net_world.specs.Script.{is_due}
use Rattle.net_world.proofs.FirstLemmas.{first_none, first_some}
use Rattle.net_world.proofs.timed.take_due.Goals as goal

pub returns-in-Some-clause-got : goal.returns-in-Some-clause-got
returns-in-Some-clause-got c =
    let found = first_some (is_due c.args.clock) c.args.items.now.items c.in-Some.at c.remove.result (search rules) in
    rw found.1 (ap (λ t. t.got) c.remove.ensures.value)

pub returns-in-Some-clause-left : goal.returns-in-Some-clause-left
returns-in-Some-clause-left c =
    let found = first_some (is_due c.args.clock) c.args.items.now.items c.in-Some.at c.remove.result (search rules) in
    c.remove.ensures.items ∙ sym found.2

pub returns-in-None-clause-got : goal.returns-in-None-clause-got
returns-in-None-clause-got c = rw (first_none (is_due c.args.clock) c.args.items.now.items (search rules)).0 refl

pub returns-in-None-clause-left : goal.returns-in-None-clause-left
returns-in-None-clause-left c = sym (first_none (is_due c.args.clock) c.args.items.now.items (search rules)).1
