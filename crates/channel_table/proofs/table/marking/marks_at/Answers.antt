use Rattle.channel_table.proofs.Base.{List, ap, arith, length, subst, sym, ◌<◌, ◌∙◌, ◌≡◌, true, Legs, key_of, Row}
use Rattle.std.proofs.Common.{slice_index_or}
use Rattle.std.specs.FinSet as set
use Rattle.channel_table.proofs.ListedLemmas.{insert_keeps}
use Rattle.channel_table.proofs.MarkLemmas.{all_marked, more_marked}
use Rattle.channel_table.proofs.table.marking.marks_at.Goals as goal

pub returns-in_err-answer-clause-kept : goal.returns-in_err-answer-clause-kept
returns-in_err-answer-clause-kept g c = λ number there.
    subst (λ (legs : Legs). set.contains legs (key_of number) ≡ true) (sym c.in_ok-put.ensures.ok) (insert_keeps c.loop-place.waiting c.key_of.result number (c.loop-place.invariant.kept number there))

pub returns-in_err-push_back-clause-kept : goal.returns-in_err-push_back-clause-kept
returns-in_err-push_back-clause-kept g c = λ number there.
    subst (λ (legs : Legs). set.contains legs (key_of number) ≡ true) (sym c.in_ok-put.ensures.ok) (insert_keeps c.loop-place.waiting c.key_of.result number (c.loop-place.invariant.kept number there))

pub loop-place-preserved : goal.loop-place-preserved
loop-place-preserved g c =
    let rows : List (Row g.row.T.Denot) = c.args.rows.now.items in
    let row : Row g.row.T.Denot = c.row_at-row.result.now in
    let inside : slice_index_or c.args.indexes.now c.loop-place.place 0 < length c.args.rows.now.items = omega (arith, c.if-index-len.false, c.len.ensures, c.args.rows.now.ok.0) in
    let put = c.in_ok-put.ensures.ok ∙ ap (set.insert c.loop-place.waiting) c.key_of.ensures in
    let more = more_marked c.args.options.now c.args.server c.args.link c.args.most c.loop-place.marks.items c.loop-place.waiting c.loop-place.count c.loop-place.from rows c.loop-place.invariant.upto
    (slice_index_or c.args.indexes.now c.loop-place.place 0) row (omega (arith, c.if-index-from.false)) inside c.row_at-row.ensures c.count_in-count.result c.count_in-count.ensures.value c.in_ok-answer.answer c.in_ok-answer.ensures c.put.new.self put in
    record {
      inside = omega (arith, inside);
      few = omega (arith, c.loop-place.invariant.few, c.if-index-from.false, c.count_in-count.ensures.few);
      upto = rw c.in_ok-push_back.ensures.items more;
      kept = λ number there. subst (λ (legs : Legs). set.contains legs (key_of number) ≡ true) (sym c.in_ok-put.ensures.ok) (insert_keeps c.loop-place.waiting c.key_of.result number (c.loop-place.invariant.kept number there));
    }

pub returns-clause-marks : goal.returns-clause-marks
returns-clause-marks g c = λ full.
    (all_marked c.args.options.now c.args.server c.args.link c.args.most c.loop-place.marks.items c.loop-place.waiting c.loop-place.count c.loop-place.from c.args.rows.now.items c.loop-place.invariant.upto full).0

pub returns-clause-listed : goal.returns-clause-listed
returns-clause-listed g c = λ full.
    (all_marked c.args.options.now c.args.server c.args.link c.args.most c.loop-place.marks.items c.loop-place.waiting c.loop-place.count c.loop-place.from c.args.rows.now.items c.loop-place.invariant.upto full).1
