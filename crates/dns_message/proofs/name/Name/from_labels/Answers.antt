use Rattle.std.proofs.Common.{inl, inr, ◌∙◌}
use Rattle.std.proofs.lemmas.Result.{err_from_is_err_and}
use Rattle.dns_message.proofs.PieceLemmas.{no_names, short_spoils}
use Rattle.dns_message.proofs.SpotLemmas.{labels_stop, labels_long}
use Rattle.dns_message.proofs.FaultLemmas.{name_cause_then}
use Rattle.dns_message.proofs.name.Name.from_labels.Goals as goal

pub returns-then-label-gt-LABEL_MOST-clause-refused : goal.returns-then-label-gt-LABEL_MOST-clause-refused
returns-then-label-gt-LABEL_MOST-clause-refused c = no_names c.args.labels.now c.loop-i.i _ c.loop-i-test.true (inr (inl c.if-label-gt-LABEL_MOST.true))

pub returns-in_err-add_label-clause-refused : goal.returns-in_err-add_label-clause-refused
returns-in_err-add_label-clause-refused c =
    let p = err_from_is_err_and c.from_residual.result c.from_residual.ensures.1 in
    rw (p.1, p.2) (name_cause_then _ _ c.in_err-add_label.field-0.0
    (λ s. no_names c.args.labels.now c.loop-i.i _ c.loop-i-test.true (short_spoils _ _ s))
    (rw c.loop-i.invariant.made at c.in_err-add_label.ensures.refused))

pub returns-then-label-gt-LABEL_MOST-clause-fault : goal.returns-then-label-gt-LABEL_MOST-clause-fault
returns-then-label-gt-LABEL_MOST-clause-fault c = λ _. c.loop-i.invariant.left ∙ labels_long c.loop-i.name c.args.labels.now c.loop-i.i _ c.loop-i-test.true c.if-label-gt-LABEL_MOST.true

pub returns-in_err-add_label-clause-fault : goal.returns-in_err-add_label-clause-fault
returns-in_err-add_label-clause-fault c =
    let p = err_from_is_err_and c.from_residual.result c.from_residual.ensures.1 in
    rw (p.1, p.2) (λ ne. c.loop-i.invariant.left ∙ labels_stop c.loop-i.name c.args.labels.now c.loop-i.i _ c.in_err-add_label.field-0.0 c.loop-i-test.true c.if-label-gt-LABEL_MOST.false (c.in_err-add_label.ensures.read ne))
