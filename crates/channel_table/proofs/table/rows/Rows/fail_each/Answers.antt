use Rattle.channel_table.proofs.Base.{◌≡◌, true, false}
use Rattle.channel_table.proofs.FailedRows.{fails_rising}
use Rattle.channel_table.proofs.table.rows.Rows.fail_each.Goals as goal

pub invariant_of-self : goal.invariant_of-self
invariant_of-self g c = record {
  rising = rw c.fail_all.ensures.fails.kept (fails_rising c.args.options.now c.args.server c.args.link c.args.most c.self.inside c.self.invariant);
  flown = rw c.fail_all.ensures.fails.kept ((rw c.as_slice.ensures.value at c.forget_over.ensures) c.args.options.now c.args.most c.in_ok-answers.ensures c.self.invariant.flown);
  linked = rw c.fail_all.ensures.fails.kept ((rw c.as_slice-2.ensures.value at c.end_over.ensures) c.args.options.now c.args.most c.in_ok-answers.ensures c.self.invariant.linked);
  listed = λ on. absurd (let t : true ≡ false = on in cc);
  tally = c.of_rows-self-inside.ensures;
}
