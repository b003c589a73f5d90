use Rattle.std.proofs.Common.{◌∙◌, ◌≡◌, ◌≢◌, ◌+◌, ◌-◌, get_or, inl, inr, arith}
use Rattle.std.proofs.lemmas.List.{length-drop}
use Rattle.dns_message.proofs.PlainLemmas.{behind_root, behind_bad, behind_more, behind_end}
use Rattle.dns_message.proofs.held_rdata.plain_name_end.Goals as goal

pub returns-then-len-eq0 : goal.returns-then-len-eq0
returns-then-len-eq0 c =
    let some : 255 - (c.loop-at.at - c.args.start) ≢ 0 = omega (arith, c.if-at-start-lt-NAME_MOST.true) in
    (c.loop-at.invariant.read ∙ behind_root c.args.bytes.now c.loop-at.at _ c.loop-at-test.true some c.if-len-eq0.true, omega (arith, c.loop-at-test.true))

pub returns-then-len-gt-LABEL_MOST : goal.returns-then-len-gt-LABEL_MOST
returns-then-len-gt-LABEL_MOST c =
    let some : 255 - (c.loop-at.at - c.args.start) ≢ 0 = omega (arith, c.if-at-start-lt-NAME_MOST.true) in
    c.loop-at.invariant.read ∙ behind_bad c.args.bytes.now c.loop-at.at _ c.loop-at-test.true some c.if-len-gt-LABEL_MOST.true

pub loop-at-preserved : goal.loop-at-preserved
loop-at-preserved c =
    let some : 255 - (c.loop-at.at - c.args.start) ≢ 0 = omega (arith, c.if-at-start-lt-NAME_MOST.true) in
    let len = get_or c.args.bytes.now c.loop-at.at 0 in
    let room : 255 - (c.loop-at.at - c.args.start) - (len + 1) ≡ 255 - (c.loop-at.at + (len + 1) - c.args.start) = omega (arith, c.loop-at.invariant.after) in
    record {
      after = omega (arith, c.loop-at.invariant.after);
      read = c.loop-at.invariant.read ∙ (rw room at (behind_more c.args.bytes.now c.loop-at.at _ c.loop-at-test.true some c.if-len-eq0.false c.if-len-gt-LABEL_MOST.false));
    }

pub returns-else-at-start-lt-NAME_MOST : goal.returns-else-at-start-lt-NAME_MOST
returns-else-at-start-lt-NAME_MOST c = c.loop-at.invariant.read ∙ behind_end _ _ (inr (omega (arith, c.if-at-start-lt-NAME_MOST.false)))

pub returns-after-loop-at : goal.returns-after-loop-at
returns-after-loop-at c = c.loop-at.invariant.read ∙ behind_end _ _ (inl (omega (arith, length-drop c.loop-at.at c.args.bytes.now, c.loop-at-test.false)))
