use Rattle.std.proofs.Common.{◌≡◌, ◌+◌, ◌<◌, ◌∷◌, ◌++◌, [], length, inl, inr, ◌∙◌, arith}
use Rattle.std.proofs.lemmas.Result.{err_from_is_err_and}
use Rattle.dns_message.specs.Name.{IsName}
use Rattle.dns_message.proofs.PieceLemmas.{continued_none, spoilt_text, whole_text, rest_of_text, short_spoils}
use Rattle.dns_message.proofs.SpotLemmas.{label_stops, label_joins}
use Rattle.dns_message.proofs.FaultLemmas.{name_cause_then}
use Rattle.dns_message.proofs.name.Name.from_text.Goals as goal
use Rattle.dns_message.proofs.name.Name.from_text.Goals.{then-not-dotted-via-then-not-dotted, then-not-dotted-via-else-not-dotted+then-end-text}

pub returns-in_err-found-clause-refused : goal.returns-in_err-found-clause-refused
returns-in_err-found-clause-refused c =
    let p = err_from_is_err_and c.from_residual-in_err-found.result c.from_residual-in_err-found.ensures.1 in
    rw (p.1, p.2) (name_cause_then _ _ _ (λ h. c.loop-name.invariant.read ∙ continued_none c.loop-name.name _ h) c.in_err-found.ensures.refused)

pub returns-in_err-add_label-clause-refused : goal.returns-in_err-add_label-clause-refused
returns-in_err-add_label-clause-refused c =
    let p = err_from_is_err_and c.from_residual-in_err-add_label.result c.from_residual-in_err-add_label.ensures.1 in
    let read = spoilt_text c.args.text.now c.loop-name.start c.in_ok-found.found.end c.loop-name.name c.in_ok-found.found.label.items c.in_ok-found.found.dotted c.loop-name.invariant.read c.in_ok-found.ensures.read in
    rw (p.1, p.2) (name_cause_then _ _ _ (λ s. read (short_spoils c.loop-name.name c.in_ok-found.found.label.items s)) (rw c.as_slice-in-loop-name.ensures.value at c.in_err-add_label.ensures.refused))

pub returns-in_err-found-clause-fault : goal.returns-in_err-found-clause-fault
returns-in_err-found-clause-fault c =
    let p = err_from_is_err_and c.from_residual-in_err-found.result c.from_residual-in_err-found.ensures.1 in
    rw (p.1, p.2) (λ ne. c.loop-name.invariant.placed ∙ c.in_err-found.ensures.placed ne c.loop-name.name)

pub returns-in_err-add_label-clause-fault : goal.returns-in_err-add_label-clause-fault
returns-in_err-add_label-clause-fault c =
    let p = err_from_is_err_and c.from_residual-in_err-add_label.result c.from_residual-in_err-add_label.ensures.1 in
    rw (p.1, p.2) (λ ne. c.loop-name.invariant.placed ∙ c.in_ok-found.ensures.placed c.loop-name.name
    ∙ label_stops c.args.text.now c.loop-name.name c.loop-name.start c.in_ok-found.found.end c.in_ok-found.found.label.items c.in_ok-found.found.dotted c.in_ok-found.ensures.last c.in_err-add_label.field-0.0 ((rw c.as_slice-in-loop-name.ensures.value at c.in_err-add_label.ensures.read) ne))

pub returns-then-not-dotted-clause-read : goal.returns-then-not-dotted-clause-read
returns-then-not-dotted-clause-read c =
    let label = c.in_ok-found.found.label.items in
    let name : c.add_label.new.name ≡ c.loop-name.name ++ label ∷ [] = rw (← c.as_slice-in-loop-name.ensures.value) c.in_ok-add_label.ensures.ok in
    let is : IsName (c.loop-name.name ++ label ∷ []) = rw (← name, ← c.name-in-loop-name.view_is) c.name-in-loop-name.invariant.name in
    let read = whole_text c.args.text.now c.loop-name.start c.in_ok-found.found.end c.loop-name.name label c.in_ok-found.found.dotted c.loop-name.invariant.read c.in_ok-found.ensures.read is in
    rw name (elim c.then-not-dotted.branch [ then-not-dotted-via-then-not-dotted w ↦ read (inl w.if-not-dotted.true) | then-not-dotted-via-else-not-dotted+then-end-text w ↦ read (inr w.if-end-text.true) ])

pub loop-name-preserved : goal.loop-name-preserved
loop-name-preserved c =
    let label = c.in_ok-found.found.label.items in
    let name : c.add_label.new.name ≡ c.loop-name.name ++ label ∷ [] = rw (← c.as_slice-in-loop-name.ensures.value) c.in_ok-add_label.ensures.ok in
    let more : c.in_ok-found.found.end + 1 < length c.args.text.now = omega (arith, c.in_ok-found.ensures.dot c.if-not-dotted.false, c.if-end-text.false) in
    record {
      within = omega arith;
      placed = rw name (c.loop-name.invariant.placed ∙ c.in_ok-found.ensures.placed c.loop-name.name
          ∙ label_joins c.args.text.now c.loop-name.name c.loop-name.start c.in_ok-found.found.end label c.in_ok-found.found.dotted c.if-not-dotted.false more (rw c.as_slice-in-loop-name.ensures.value at c.in_ok-add_label.ensures.read));
      read = rw name (rest_of_text c.args.text.now c.loop-name.start c.in_ok-found.found.end c.loop-name.name label c.in_ok-found.found.dotted c.loop-name.invariant.read c.in_ok-found.ensures.read c.if-not-dotted.false more);
    }
