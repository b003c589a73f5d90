use Rattle.channel_table.proofs.Base.{sym, ap, arith, ◌∙◌, ◌<◌, length, get_or_read, has_next, next_row, Row}
use Rattle.query_machine.specs.declared.leg.Leg as machine
use Rattle.channel_table.proofs.EndedRows.{asks_so, ends_so, goes_on_so}
use Rattle.channel_table.proofs.table.ending.end_row.Goals as goal

pub returns-in-None-clause-ends : goal.returns-in-None-clause-ends
returns-in-None-clause-ends g c =
    let inside : c.args.index < length c.args.rows.now.items = omega (arith, c.requires.inside) in
    rw c.in-None.is (goes_on_so c.args.options.now.flags c.args.concerned c.args.judged c.args.reply c.args.most c.args.index c.args.rows.now.items c.args.ready.now.items c.index_mut.result.now inside c.index_mut.ensures.value c.close.new.self c.close.ensures)

pub returns-then-has_next-clause-ends : goal.returns-then-has_next-clause-ends
returns-then-has_next-clause-ends g c =
    let rows = c.args.rows.now.items in
    let row : Row g.row.T.Denot = c.index_mut-then-has_next.result.now in
    let inside : c.args.index < length c.args.rows.now.items = omega (arith, c.requires.inside) in
    let here = c.index_mut-then-has_next.ensures.value in
    let tested = get_or_read rows c.args.index c.row_at.result.now inside c.row_at.ensures row ∙ sym here in
    let next = ap (λ (r : Row g.row.T.Denot). has_next c.in-Some.answer.status r) (sym tested) ∙ sym c.has_next.ensures ∙ c.if-has_next.true in
    rw c.in-Some.is (asks_so c.args.options.now.flags c.args.concerned c.args.judged c.args.reply c.args.most c.args.index rows c.args.ready.now.items row inside here c.in-Some.answer c.ask_next.new.self next
    (c.ask_next.ensures ∙ ap (λ (l : machine.Leg). next_row l c.in-Some.answer.status row) c.new.ensures))

pub returns-clause-ends : goal.returns-clause-ends
returns-clause-ends g c =
    let rows = c.args.rows.now.items in
    let row : Row g.row.T.Denot = c.take_at.result in
    let inside : c.args.index < length c.args.rows.now.items = omega (arith, c.requires.inside) in
    let here = c.take_at.ensures.value in
    let tested = get_or_read rows c.args.index c.row_at.result.now inside c.row_at.ensures row ∙ sym here in
    let last = ap (λ (r : Row g.row.T.Denot). has_next c.in-Some.answer.status r) (sym tested) ∙ sym c.has_next.ensures ∙ c.if-has_next.false in
    rw (c.in-Some.is, c.push_back_reserved.ensures.items)
    (ends_so c.args.options.now.flags c.args.concerned c.args.judged c.args.reply c.args.most c.args.index rows c.args.ready.now.items row inside here c.in-Some.answer c.into_ticket.result c.take_at.new.rows.items last c.into_ticket.ensures c.take_at.ensures.items)
