use Rattle.channel_table.proofs.Base.{◌∙◌}
use Rattle.channel_table.proofs.FailedRows.{fails_rising, more_listed, stays_listed}
use Rattle.channel_table.proofs.table.rows.Rows.fail_few.Goals as goal

pub invariant_of-self : goal.invariant_of-self
invariant_of-self g c = more_listed c.self.inside c.marks_at.new.waiting c.self.invariant c.marks_at.ensures.kept

pub invariant_of-self-then-found-count : goal.invariant_of-self-then-found-count
invariant_of-self-then-found-count g c = more_listed c.self.inside c.marks_at.new.waiting c.self.invariant c.marks_at.ensures.kept

pub invariant_of-self-2 : goal.invariant_of-self-2
invariant_of-self-2 g c = record {
  rising = rw c.fail_marked.ensures.fails.kept (fails_rising c.args.options.now c.args.server c.args.link c.args.most c.self.inside c.self.invariant);
  flown = c.fail_marked.ensures.flown c.self.invariant.flown;
  linked = c.fail_marked.ensures.linked c.self.invariant.linked;
  listed = λ on. rw c.fail_marked.ensures.fails.kept
      (stays_listed c.args.options.now c.args.server c.args.link c.args.most c.self.inside c.self.invariant c.args.self.now c.self.view_is c.requires.unanswered c.marks_at.new.waiting c.marks_at.ensures.kept c.in_ok-found.found.count c.in_ok-found.ensures.listed (c.if-found-count.false ∙ c.requires.count) on);
  tally = c.fail_marked.ensures.tally c.self.invariant.tally;
}
