use Rattle.channel_table.proofs.Base.{List, arith, ◌∙◌, has_left, left_in, Row}
use Rattle.channel_table.proofs.LeaveLemmas.{left_told}
use Rattle.channel_table.proofs.TallyLemmas.{sum_few, two_lookups}
use Rattle.channel_table.proofs.table.rows.Rows.count_left.Goals as goal

pub count_left-requires : goal.count_left-requires
count_left-requires g c =
    let rows : List (Row g.row.T.Denot) = c.self.inside.list.items in
    rw c.uses.ensures (omega (arith, left_told c.args.list.now c.self.inside.links rows c.self.invariant.linked, sum_few (left_in c.args.list.now) (two_lookups (has_left c.args.list.now)) rows, c.self.inside.list.ok.0, c.self.inside.list.small.0, c.self.inside.list.small.1))

pub returns : goal.returns
returns g c = rw (← c.self.view_is) (c.count_left.ensures ∙ rw c.uses.ensures (left_told c.args.list.now c.self.inside.links c.self.inside.list.items c.self.invariant.linked))
