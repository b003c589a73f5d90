use Rattle.channel_table.proofs.Base.{◌≡◌, ◌∙◌, true, subst, List, Ticket, key_of, stays, Row}
use Rattle.std.specs.FinSet as set
use Rattle.channel_table.proofs.IndexLemmas.{ends_listed, ends_rising}
use Rattle.channel_table.proofs.ListedLemmas.{kept_listed}
use Rattle.channel_table.proofs.table.rows.Rows.end_row.Goals as goal

pub invariant_of-self-2 : goal.invariant_of-self-2
invariant_of-self-2 g c =
    let rows : List (Row g.row.T.Denot) = c.self.inside.list.items in
    let tickets : List (Ticket g.row.T.Denot) = c.args.ready.now.items in
    let legs = c.list_staying.new.waiting in
    let ends = c.end_found-self-inside.ensures.ends in
    let new : List (Row g.row.T.Denot) = c.end_found-self-inside.new.rows.items in
    let same : c.row_at.result.now ≡ ends.row = c.row_at.ensures ∙ ends.is c.row_at.result.now in
    let put = subst (λ (r : Row g.row.T.Denot). stays c.args.answer r ≡ true → set.contains legs (key_of r.number) ≡ true) same c.in_ok-list_staying.ensures.listed in
    record {
      flown = c.end_found-self-inside.ensures.flown c.self.invariant.flown;
      linked = c.end_found-self-inside.ensures.linked c.self.invariant.linked;
      rising = ends_rising c.args.options.now.flags c.args.concerned c.args.judged c.args.reply c.args.most c.args.answer c.args.index rows tickets new c.end_found-self-inside.new.ready.items ends c.self.invariant.rising;
      listed = λ on. ends_listed c.args.options.now.flags c.args.concerned c.args.judged c.args.reply c.args.most c.args.answer c.args.index rows tickets new c.end_found-self-inside.new.ready.items ends legs
          (kept_listed c.self.inside.waiting legs rows c.in_ok-list_staying.ensures.kept (c.self.invariant.listed on)) put;
      tally = c.end_found-self-inside.ensures.tally c.self.invariant.tally;
    }
