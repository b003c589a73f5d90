use Rattle.channel_table.proofs.Base.{◌∙◌, ap, get_or_read, answer_behind, concerned_at, Row, EndsAttempt}
use Rattle.channel_table.proofs.EndedRows.{ends_keeping}
use Rattle.channel_table.proofs.table.attempt_ending.end_attempt.Goals as goal

pub returns-clause-ends : goal.returns-clause-ends
returns-clause-ends g c =
    let most = c.most_attempts-most.result in
    let ends = ends_keeping c.args.options.now.flags (concerned_at c.args.is_second) c.args.judged c.in_ok-reply.reply c.args.bytes.now most c.in_ok-answer.answer c.args.index
    c.args.rows.now c.args.ready.now.items c.end_row.new.self c.end_row.new.ready.items c.in_ok-reply.ensures (rw c.at-concerned.ensures at c.in_ok-end_row.ensures.ends) in
    let at_row = get_or_read c.args.rows.now c.args.index c.row.result.now c.requires.inside c.row.ensures ends.row ∙ ends.is ends.row in
    let ended : EndsAttempt c.args.options.now most c.args.is_second c.args.judged c.args.bytes.now c.args.index c.args.rows.now c.args.ready.now.items c.end_row.new.self c.end_row.new.ready.items = record {
      few = c.most_attempts-most.ensures.few;
      answer = c.in_ok-answer.answer;
      ends = ends;
      answers = (rw c.at-concerned.ensures at c.in_ok-answer.ensures) ∙ ap (λ (r : Row g.row.T.Denot). answer_behind c.args.options.now (concerned_at c.args.is_second) c.args.judged c.args.bytes.now most r) at_row;
    } in
    rw (← c.most_attempts-most.ensures.value) ended
