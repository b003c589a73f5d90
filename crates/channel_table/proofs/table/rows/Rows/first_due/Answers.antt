use Rattle.channel_table.proofs.Base.{List, ap, sym, option_map, Due, least, Row}
use Rattle.channel_table.proofs.FirstDue.{first_least, none_due}
use Rattle.channel_table.proofs.table.rows.Rows.first_due.Goals as goal

pub returns-in-Some : goal.returns-in-Some
returns-in-Some g c =
    let rows : List (Row g.row.T.Denot) = c.self.inside.list.items in
    rw (← c.self.view_is) (sym (ap (option_map (λ (d : Due). d.at)) (first_least c.self.inside.flown rows c.in-Some.field-0-0 c.in-Some.due c.self.invariant.flown c.in-Some.ensures)))

pub returns-in-None : goal.returns-in-None
returns-in-None g c =
    let rows : List (Row g.row.T.Denot) = c.self.inside.list.items in
    rw (← c.self.view_is) (sym (ap (λ (ds : List Due). option_map (λ (d : Due). d.at) (least ds)) (none_due c.self.inside.flown rows c.in-None.ensures c.self.invariant.flown)))
