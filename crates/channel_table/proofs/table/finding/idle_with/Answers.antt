use Rattle.channel_table.proofs.Base.{ap, ◌∙◌, number_of}
use Rattle.channel_table.proofs.ListedLemmas.{finds_with}
use Rattle.channel_table.proofs.table.finding.idle_with.Goals as goal

pub returns : goal.returns
returns g c =
    let row = c.row_at.result.now in
    let found = c.in_ok-index.ensures in
    finds_with c.args.rows.now.items c.args.number c.in_ok-index.index row c.idle_lookup.result c.requires found.0 c.row_at.ensures (ap number_of c.row_at.ensures ∙ found.1 row) c.idle_lookup.ensures
