use Rattle.channel_table.proofs.Base.{List, Option, [], ap, ap₂, arith, get_or, map, subst, ◌++◌, ◌∙◌, ◌-◌, ◌≡◌, append-nil, take_all, filter_map, is_some, Answer, ConnRefused, Failed, used, answer_over, fails_at, kept_of, AreLinked, over_ended, Row, Over}
use Rattle.channel_table.proofs.FlownRows.{drop_none, map_at}
use Rattle.channel_table.proofs.LinkedLemmas.{over_linked}
use Rattle.channel_table.proofs.table.linked.end_over.Goals as goal

pub loop-index-preserved : goal.loop-index-preserved
loop-index-preserved g c = λ options most same are.
    let rows : List (Row g.row.T.Denot) = c.args.rows.now.items in
    let row : Row g.row.T.Denot = c.row_at.result.now in
    let given : Option Answer = c.index-answers-index.result in
    let answer = c.index-answers-index.is ∙ ap (λ (us : List (Option Answer)). get_or us c.loop-index.index given) same ∙ map_at (answer_over options c.args.server c.args.link most) rows c.loop-index.index row given (omega (arith, c.loop-index-test.true, c.len-index-end.ensures)) c.row_at.ensures in
    over_linked c.loop-index.links c.end_attempts.new.links rows c.loop-index.index row (omega (arith, c.loop-index-test.true, c.len-index-end.ensures)) c.row_at.ensures options.flags (Over c.args.server c.args.link) (Failed ConnRefused) [] most (answer_over options c.args.server c.args.link most) (c.loop-index.invariant options most same are)
    (λ server link. subst (λ (a : Option Answer). used server link c.end_attempts.new.links ≡ used server link c.loop-index.links - over_ended (Over c.args.server c.args.link) (is_some a) server link row) answer (c.end_attempts.ensures server link))

pub returns : goal.returns
returns g c = λ options most same are.
    let rows : List (Row g.row.T.Denot) = c.args.rows.now.items in
    subst (AreLinked c.loop-index.links)
    (ap₂ (λ (xs ys : List (Row g.row.T.Denot)). filter_map kept_of (map (fails_at options c.args.server c.args.link most) xs) ++ ys) (take_all c.loop-index.index rows (omega (arith, c.loop-index-test.false, c.len-index-end.ensures))) (drop_none rows c.loop-index.index (omega (arith, c.loop-index-test.false, c.len-index-end.ensures)))
    ∙ append-nil (filter_map kept_of (map (fails_at options c.args.server c.args.link most) rows))) (c.loop-index.invariant options most same are)
