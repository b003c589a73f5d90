use Rattle.channel_table.proofs.Base.{List, arith, sym, ◌∙◌, Row}
use Rattle.channel_table.proofs.FailedRows.{none_counted}
use Rattle.channel_table.proofs.LinkedLemmas.{link_fits}
use Rattle.channel_table.proofs.table.rows.Rows.fail_all.Goals as goal

pub count-count-requires : goal.count-count-requires
count-count-requires g c =
    let rows : List (Row g.row.T.Denot) = c.self.inside.list.items in
    let fits = link_fits c.self.inside.links rows c.self.invariant.linked (omega (arith, c.self.inside.list.ok.0, c.self.inside.list.small.0, c.self.inside.list.small.1)) c.args.server c.args.link in
    record { fits = omega (arith, fits) }

pub returns-then-count-eq0-clause-fails : goal.returns-then-count-eq0-clause-fails
returns-then-count-eq0-clause-fails g c =
    none_counted c.args.options.now c.args.server c.args.link c.args.most c.self.inside c.self.invariant c.args.self.now c.self.view_is c.requires.unanswered c.args.ready.now.items (sym c.count-count.ensures ∙ c.if-count-eq0.true)
