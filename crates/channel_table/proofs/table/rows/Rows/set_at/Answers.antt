use Rattle.channel_table.proofs.Base.{List, ap, map, subst, true, ◌∙◌, ◌≡◌, or_parts, key_of, row_set, Row}
use Rattle.std.specs.FinSet as set
use Rattle.channel_table.proofs.LeaveLemmas.{sets_again, sets_listed, sets_rising}
use Rattle.channel_table.proofs.table.rows.Rows.set_at.Goals as goal

pub invariant_of-self : goal.invariant_of-self
invariant_of-self g c =
    let list = c.args.list.now in
    let rows : List (Row g.row.T.Denot) = c.self.inside.list.items in
    let new : List (Row g.row.T.Denot) = c.set_found-self-inside.new.rows.items in
    let legs = c.list_number.new.waiting in
    let sets = c.set_found-self-inside.ensures.sets in
    let same : c.row_at.result.now ≡ sets.row = c.row_at.ensures ∙ sets.is c.row_at.result.now in
    record {
      rising = sets_rising list c.args.index rows new sets c.self.invariant.rising;
      flown = c.set_found-self-inside.ensures.flown c.self.invariant.flown;
      linked = c.set_found-self-inside.ensures.linked c.self.invariant.linked;
      listed = λ on.
          let both = or_parts c.self.inside.unlisted c.list_number.result on in
          let there = subst (λ (r : Row g.row.T.Denot). set.contains legs (key_of r.number) ≡ true) same (c.list_number.ensures.listed both.1) in
          sets_listed list c.args.index rows new sets c.self.inside.waiting legs c.list_number.ensures.kept there (c.self.invariant.listed both.0);
      tally = c.set_found-self-inside.ensures.tally c.self.invariant.tally;
    }

pub returns-clause-rows : goal.returns-clause-rows
returns-clause-rows g c =
    sets_again c.args.list.now c.args.index c.self.inside.list.items c.set_found-self-inside.new.rows.items c.set_found-self-inside.ensures.sets ∙ ap (map (row_set c.args.list.now)) c.self.view_is
