use Rattle.channel_table.proofs.Base.{ap, arith, length, sym, ◌<◌, ◌-◌, ◌≡◌, ◌∙◌, subst, List, ℕ, is_some, used, AreFlown, ended_of, over_ended, all_lookups, IsTallyLeft, Row, Flown}
use Rattle.channel_table.proofs.FlownRows.{ends_flown}
use Rattle.channel_table.proofs.LinkedLemmas.{ends_linked}
use Rattle.channel_table.proofs.TallyLemmas.{ends_tally}
use Rattle.channel_table.proofs.table.found.end_found.Goals as goal

pub returns-clause-flown : goal.returns-clause-flown
returns-clause-flown g c = λ are.
    let rows : List (Row g.row.T.Denot) = c.args.rows.now.items in
    let new : List (Row g.row.T.Denot) = c.end_row.new.rows.items in
    let ends = c.end_row.ensures.ends in
    let same : c.row_at-row.result.now ≡ ends.row = c.row_at-row.ensures ∙ ends.is c.row_at-row.result.now in
    subst (λ (f : Flown). AreFlown f (all_lookups new)) (sym (c.forget_ended.ensures ∙ ap (λ (r : Row g.row.T.Denot). ended_of c.args.concerned (is_some c.args.answer) r c.args.flown.now) same))
    (ends_flown c.args.flown.now c.args.options.now.flags c.args.concerned c.args.judged c.args.reply c.args.most c.args.answer c.args.index rows c.args.ready.now.items new c.end_row.new.ready.items ends are)

pub returns-clause-linked : goal.returns-clause-linked
returns-clause-linked g c = λ are.
    let rows : List (Row g.row.T.Denot) = c.args.rows.now.items in
    let new : List (Row g.row.T.Denot) = c.end_row.new.rows.items in
    let ends = c.end_row.ensures.ends in
    let same : c.row_at-row.result.now ≡ ends.row = c.row_at-row.ensures ∙ ends.is c.row_at-row.result.now in
    ends_linked c.args.links.now rows are c.end_attempts.new.links c.args.options.now.flags c.args.concerned c.args.judged c.args.reply c.args.most c.args.answer c.args.index c.args.ready.now.items new c.end_row.new.ready.items ends
    (λ server link. subst (λ (r : Row g.row.T.Denot). used server link c.end_attempts.new.links ≡ used server link c.args.links.now - over_ended c.args.concerned (is_some c.args.answer) server link r) same (c.end_attempts.ensures server link))

pub returns-clause-tally : goal.returns-clause-tally
returns-clause-tally g c = λ is.
    let rows : List (Row g.row.T.Denot) = c.args.rows.now.items in
    let new : List (Row g.row.T.Denot) = c.end_row.new.rows.items in
    let ends = c.end_row.ensures.ends in
    let inside : c.args.index < length c.args.rows.now.items = omega (arith, c.requires.inside) in
    let left = subst (λ (len : ℕ). IsTallyLeft c.args.index len new c.tally_left.result) (c.len-len.ensures ∙ c.args.rows.now.ok.0) c.tally_left.ensures in
    ends_tally c.args.options.now.flags c.args.concerned c.args.judged c.args.reply c.args.most c.args.answer c.args.index rows c.args.ready.now.items new c.end_row.new.ready.items ends inside (omega (arith, c.end_row.new.rows.ok.0, c.end_row.new.rows.small.0, c.end_row.new.rows.small.1))
    c.args.tally c.of_row-before.result c.tally_left.result c.moved.result c.row_at-row.result.now c.of_row-before.ensures c.row_at-row.ensures left is c.moved.ensures
