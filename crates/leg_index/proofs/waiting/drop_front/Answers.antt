use Rattle.std.proofs.Common.{sym, subst, ◌∙◌}
use Rattle.leg_index.specs.Waiting.{Leaves}
use Rattle.leg_index.proofs.WaitingLemmas.{left_kept, left_popped}
use Rattle.leg_index.proofs.waiting.drop_front.Goals as goal

-- the row doesn't begin with the leg, so that it is without it
pub returns-then-not-begins_with-clause-left : goal.returns-then-not-begins_with-clause-left
returns-then-not-begins_with-clause-left c = left_kept c.args.row.now.items c.args.leg c.requires.rising (sym c.begins_with.ensures ∙ c.if-not-begins_with.true) c.requires.first

-- it does
pub returns-clause-left : goal.returns-clause-left
returns-clause-left c = subst (Leaves c.args.leg c.args.row.now.items) (sym c.pop_front.ensures.rest) (left_popped c.args.row.now.items c.args.leg c.requires.rising (sym c.begins_with.ensures ∙ c.if-not-begins_with.false))
