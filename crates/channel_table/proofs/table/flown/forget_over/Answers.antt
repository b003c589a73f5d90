use Rattle.channel_table.proofs.Base.{List, Option, [], ap, ap₂, arith, get_or, map, subst, sym, ◌++◌, ◌∙◌, ◌+◌, drop, take, append-nil, take_all, filter_map, is_some, Answer, ConnRefused, Failed, answer_over, fails_at, kept_of, AreFlown, ended_of, all_lookups, Row, Over, Flown}
use Rattle.channel_table.proofs.FlownRows.{drop_none, map_at, over_step}
use Rattle.channel_table.proofs.table.flown.forget_over.Goals as goal

pub loop-index-preserved : goal.loop-index-preserved
loop-index-preserved g c = λ options most same are.
    let rows : List (Row g.row.T.Denot) = c.args.rows.now.items in
    let row : Row g.row.T.Denot = c.row_at.result.now in
    let given : Option Answer = c.index-answers-index.result in
    let flown : Flown = c.loop-index.flown in
    let answer = c.index-answers-index.is ∙ ap (λ (us : List (Option Answer)). get_or us c.loop-index.index given) same ∙ map_at (answer_over options c.args.server c.args.link most) rows c.loop-index.index row given (omega (arith, c.loop-index-test.true, c.len-index-end.ensures)) c.row_at.ensures in
    subst (λ (f : Flown). AreFlown f (all_lookups (filter_map kept_of (map (fails_at options c.args.server c.args.link most) (take (c.loop-index.index + 1) rows))) ++ all_lookups (drop (c.loop-index.index + 1) rows)))
    (sym (c.forget_ended.ensures ∙ ap (λ (a : Option Answer). ended_of (Over c.args.server c.args.link) (is_some a) row flown) answer))
    (over_step flown rows c.loop-index.index row (omega (arith, c.loop-index-test.true, c.len-index-end.ensures)) c.row_at.ensures options.flags (Over c.args.server c.args.link) (Failed ConnRefused) [] most (answer_over options c.args.server c.args.link most) (c.loop-index.invariant options most same are))

pub returns : goal.returns
returns g c = λ options most same are.
    let rows : List (Row g.row.T.Denot) = c.args.rows.now.items in
    subst (AreFlown c.loop-index.flown)
    (ap₂ (λ (xs ys : List (Row g.row.T.Denot)). all_lookups (filter_map kept_of (map (fails_at options c.args.server c.args.link most) xs)) ++ all_lookups ys) (take_all c.loop-index.index rows (omega (arith, c.loop-index-test.false, c.len-index-end.ensures))) (drop_none rows c.loop-index.index (omega (arith, c.loop-index-test.false, c.len-index-end.ensures)))
    ∙ append-nil (all_lookups (filter_map kept_of (map (fails_at options c.args.server c.args.link most) rows)))) (c.loop-index.invariant options most same are)
