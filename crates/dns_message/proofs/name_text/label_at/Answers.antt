use Rattle.std.proofs.Common.{◌≡◌, refl, length, ◌+◌, ◌∷◌, ◌++◌, [], drop, inl, inr, ap, ◌∙◌, arith}
use Rattle.std.proofs.lemmas.Result.{err_from_is_err_and}
use Rattle.std.proofs.lemmas.List.{length-append}
use Rattle.dns_message.specs.NameText.{units_of, label_before}
use Rattle.dns_message.proofs.UnitLemmas.{units_end}
use Rattle.dns_message.proofs.PieceLemmas.{label_more}
use Rattle.dns_message.proofs.FaultLemmas.{name_cause}
use Rattle.dns_message.specs.NameFaults.{name_on}
use Rattle.dns_message.proofs.SpotLemmas.{spots_end, on_long}
use Rattle.dns_message.proofs.name_text.label_at.Goals as goal

pub returns-in_err-unit-clause-refused : goal.returns-in_err-unit-clause-refused
returns-in_err-unit-clause-refused c =
    let p = err_from_is_err_and c.from_residual.result c.from_residual.ensures.1 in
    rw p.1 (name_cause _ p.0 (inl (c.loop-at.invariant.read ∙ ap (label_before c.loop-at.label.items) c.in_err-unit.ensures.refused)))

pub returns-in-Dot-clause-read : goal.returns-in-Dot-clause-read
returns-in-Dot-clause-read c =
    let next : c.in_ok-unit.next ≡ c.loop-at.at + 1 = c.in_ok-unit.ensures.dot c.in-Dot.is in
    c.loop-at.invariant.read ∙ ap (label_before c.loop-at.label.items) (rw (c.in-Dot.is, next) at c.in_ok-unit.ensures.read)

pub returns-then-len-eq-LABEL_MOST-clause-refused : goal.returns-then-len-eq-LABEL_MOST-clause-refused
returns-then-len-eq-LABEL_MOST-clause-refused c =
    let label = c.loop-at.label.items in
    let behind = units_of (drop c.in_ok-unit.next c.args.text.now) in
    let read = c.loop-at.invariant.read ∙ ap (label_before label) (rw c.in-Byte.is at c.in_ok-unit.ensures.read) ∙ label_more label c.in-Byte.byte behind in
    inr (label ++ c.in-Byte.byte ∷ [], behind, omega (arith, length-append label (c.in-Byte.byte ∷ []), c.len.ensures), read)

pub returns-clause-read : goal.returns-clause-read
returns-clause-read c = c.loop-at.invariant.read ∙ ap (label_before c.loop-at.label.items) (units_end c.args.text.now c.loop-at.at c.loop-at-test.false)

pub returns-in_err-unit-clause-placed : goal.returns-in_err-unit-clause-placed
returns-in_err-unit-clause-placed c =
    let p = err_from_is_err_and c.from_residual.result c.from_residual.ensures.1 in
    let found = c.in_err-unit.ensures.placed in
    rw (p.1, p.2) (λ ne front. c.loop-at.invariant.placed front ∙ rw (found.1, found.0) refl)

pub returns-in-Dot-clause-placed : goal.returns-in-Dot-clause-placed
returns-in-Dot-clause-placed c = λ front.
    let next : c.in_ok-unit.next ≡ c.loop-at.at + 1 = c.in_ok-unit.ensures.dot c.in-Dot.is in
    c.loop-at.invariant.placed front ∙ ap (name_on (length c.args.text.now) front c.args.start c.loop-at.label.items) (rw (c.in-Dot.is, next) at c.in_ok-unit.ensures.placed)

pub returns-then-len-eq-LABEL_MOST-clause-placed : goal.returns-then-len-eq-LABEL_MOST-clause-placed
returns-then-len-eq-LABEL_MOST-clause-placed c = λ ne front.
    c.loop-at.invariant.placed front
    ∙ ap (name_on (length c.args.text.now) front c.args.start c.loop-at.label.items) (rw c.in-Byte.is at c.in_ok-unit.ensures.placed)
    ∙ on_long (length c.args.text.now) front c.args.start c.loop-at.label.items c.loop-at.at c.in-Byte.byte _ (omega (arith, c.if-len-eq-LABEL_MOST.true, c.len.ensures))

pub returns-clause-placed : goal.returns-clause-placed
returns-clause-placed c = λ front.
    c.loop-at.invariant.placed front ∙ ap (name_on (length c.args.text.now) front c.args.start c.loop-at.label.items) (spots_end c.loop-at.at c.args.text.now c.loop-at.at c.loop-at-test.false)
