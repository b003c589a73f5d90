use Rattle.channel_table.proofs.Base.{List, arith, eqb-true, subst, sym, ◌∙◌, Row, Mark}
use Rattle.std.proofs.lemmas.List.{nil_from_length}
use Rattle.channel_table.proofs.MarkSteps.{HaveFailed, failed_all, failed_more, failed_none, next_inside}
use Rattle.channel_table.proofs.table.marking.fail_marked.Goals as goal

pub loop-alloc-init : goal.loop-alloc-init
loop-alloc-init g c = record {
  failed = failed_none c.args.options.now c.args.server c.args.link c.args.most c.args.marks.items c.args.rows.now.items c.args.ready.now.items c.requires.marked c.requires.unanswered;
  flown = λ are. are;
  linked = λ are. are;
  tally = λ is. is;
  fewer = omega arith;
  len = omega arith;
  capacity = omega arith;
}

pub fail_next-from-requires-clause-inside : goal.fail_next-from-requires-clause-inside
fail_next-from-requires-clause-inside g c =
    let rows : List (Row g.row.T.Denot) = c.loop-alloc.rows.items in
    let failed = subst (λ (ms : List Mark). HaveFailed c.args.options.now c.args.server c.args.link c.args.most ms c.args.rows.now.items rows c.args.ready.now.items c.loop-alloc.ready.items c.loop-alloc.from) c.pop_first-gap.ensures.items c.loop-alloc.invariant.failed in
    omega (arith, next_inside c.args.options.now c.args.server c.args.link c.args.most c.pop_first-gap.result c.pop_first-gap.new.deque.items c.args.rows.now.items rows c.args.ready.now.items c.loop-alloc.ready.items c.loop-alloc.from failed, c.loop-alloc.rows.ok.0)

pub loop-alloc-preserved : goal.loop-alloc-preserved
loop-alloc-preserved g c =
    let rows : List (Row g.row.T.Denot) = c.loop-alloc.rows.items in
    let failed = subst (λ (ms : List Mark). HaveFailed c.args.options.now c.args.server c.args.link c.args.most ms c.args.rows.now.items rows c.args.ready.now.items c.loop-alloc.ready.items c.loop-alloc.from) c.pop_first-gap.ensures.items c.loop-alloc.invariant.failed in
    record {
      failed = failed_more c.args.options.now c.args.server c.args.link c.args.most c.pop_first-gap.result c.pop_first-gap.new.deque.items c.args.rows.now.items rows c.args.ready.now.items c.loop-alloc.ready.items c.loop-alloc.from failed c.fail_next-from.new.rows.items c.fail_next-from.new.ready.items c.fail_next-from.ensures.ends c.fail_next-from.result
          (λ same. c.fail_next-from.ensures.stays (omega (arith, same, c.fail_next-from.new.rows.ok.0, c.loop-alloc.rows.ok.0))) (λ apart. c.fail_next-from.ensures.leaves (λ same. apart (omega (arith, same, c.fail_next-from.new.rows.ok.0, c.loop-alloc.rows.ok.0))));
      flown = λ are. c.fail_next-from.ensures.flown (c.loop-alloc.invariant.flown are);
      linked = λ are. c.fail_next-from.ensures.linked (c.loop-alloc.invariant.linked are);
      tally = λ is. c.fail_next-from.ensures.tally (c.loop-alloc.invariant.tally is);
      fewer = omega (arith, c.fail_next-from.ensures.fewer, c.loop-alloc.invariant.fewer);
      len = omega (arith, c.fail_next-from.ensures.len, c.loop-alloc.invariant.len);
      capacity = omega (arith, c.fail_next-from.ensures.capacity, c.loop-alloc.invariant.capacity);
    }

pub returns-clause-fails : goal.returns-clause-fails
returns-clause-fails g c =
    let all = failed_all c.args.options.now c.args.server c.args.link c.args.most c.loop-alloc.marks.items c.args.rows.now.items c.loop-alloc.rows.items c.args.ready.now.items c.loop-alloc.ready.items c.loop-alloc.from c.loop-alloc.invariant.failed
    (nil_from_length _ (sym c.loop-alloc.marks.ok.0 ∙ eqb-true _ _ (sym c.is_empty.ensures ∙ c.loop-alloc-test.false))) in
    record { kept = all.0; made = all.1 }
