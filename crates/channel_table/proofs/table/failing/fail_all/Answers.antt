use Rattle.channel_table.proofs.Base.{sym, ap, ap₂, arith, ◌≡◌, ◌∙◌, [], ◌∷◌, ◌++◌, append_assoc, length, into_iter_items, ConnRefused, Failed, after, answer_over, fails_at, Over}
use Rattle.channel_table.proofs.Faulting.{answers_left, ends_more, stays_more}
use Rattle.channel_table.proofs.table.failing.fail_all.Goals as goal

pub loop-row-preserved-in-Stays : goal.loop-row-preserved-in-Stays
loop-row-preserved-in-Stays g c =
    let at = c.loop-row in
    let x = c.in-Some.row in
    let steps : into_iter_items at.row-iterator ≡ x ∷ into_iter_items c.next.new.self = c.in-Some.ensures.steps.0 in
    let gone = c.in-Some.ensures.steps.1 in
    let short = ap length steps in
    let front = answers_left (answer_over c.args.options.now c.args.server c.args.link c.args.most) c.pop_first-answer.result c.pop_first-answer.ensures.items at.invariant.10 steps in
    let answer = front.0 in
    let more = stays_more (fails_at c.args.options.now c.args.server c.args.link c.args.most) at.yielded x c.in-Stays.row (ap₂ (λ b a. after c.args.options.now.flags (Over c.args.server c.args.link) (Failed ConnRefused) b c.args.most x a) (sym c.new-in-loop-row.ensures) (sym answer) ∙ sym c.in-Stays.ensures) in
    let kept = at.invariant.3 in
    let tickets = at.invariant.4 in
    let len = at.invariant.5 in
    let all = at.invariant.6 in (
      tt,
      tt,
      append_assoc at.yielded (x ∷ []) _ ∙ rw (← steps) at.invariant.2,
      c.push_back_reserved.ensures.items ∙ ap (λ ks. ks ++ c.in-Stays.row ∷ []) kept ∙ sym more.0,
      tickets ∙ ap (λ ts. c.args.ready.now.items ++ ts) (sym more.1),
      omega (arith, gone, short, len),
      omega (arith, gone, short, len, all, c.push_back_reserved.ensures.len),
      at.invariant.7,
      at.invariant.8,
      c.push_back_reserved.ensures.capacity ∙ at.invariant.9,
      front.1,
    )

pub loop-row-preserved : goal.loop-row-preserved
loop-row-preserved g c =
    let at = c.loop-row in
    let x = c.in-Some.row in
    let steps : into_iter_items at.row-iterator ≡ x ∷ into_iter_items c.next.new.self = c.in-Some.ensures.steps.0 in
    let gone = c.in-Some.ensures.steps.1 in
    let short = ap length steps in
    let front = answers_left (answer_over c.args.options.now c.args.server c.args.link c.args.most) c.pop_first-answer.result c.pop_first-answer.ensures.items at.invariant.10 steps in
    let answer = front.0 in
    let more = ends_more (fails_at c.args.options.now c.args.server c.args.link c.args.most) at.yielded x c.in-Ends.ticket (ap₂ (λ b a. after c.args.options.now.flags (Over c.args.server c.args.link) (Failed ConnRefused) b c.args.most x a) (sym c.new-in-loop-row.ensures) (sym answer) ∙ sym c.in-Ends.ensures) in
    let kept = at.invariant.3 in
    let tickets = at.invariant.4 in
    let len = at.invariant.5 in
    let all = at.invariant.6 in (
      tt,
      tt,
      append_assoc at.yielded (x ∷ []) _ ∙ rw (← steps) at.invariant.2,
      kept ∙ sym more.0,
      c.push_back_reserved-in-Ends.ensures.items ∙ ap (λ ts. ts ++ c.in-Ends.ticket ∷ []) tickets ∙ append_assoc c.args.ready.now.items _ (c.in-Ends.ticket ∷ []) ∙ ap (λ ts. c.args.ready.now.items ++ ts) (sym more.1),
      omega (arith, gone, short, len),
      omega (arith, gone, short, len, all, c.push_back_reserved-in-Ends.ensures.len),
      omega (arith, at.invariant.7, c.push_back_reserved-in-Ends.ensures.len),
      c.push_back_reserved-in-Ends.ensures.capacity ∙ at.invariant.8,
      at.invariant.9,
      front.1,
    )
