use Rattle.std.proofs.Common.{◌≡◌, [], List, ℕ, Some, map, sym, ap, ◌∙◌}
use Rattle.std.proofs.lemmas.Bool.{eqb-true}
use Rattle.std.proofs.lemmas.List.{nil_from_length, map-append}
use Rattle.dns_rdata.specs.Parts.{labels_in}
use Rattle.dns_rdata.proofs.PartsLemmas.{behind_none, labels_more, labels_stop, labels_end, some_left}
use Rattle.dns_rdata.proofs.parts.labels_in.Goals as goal

pub loop-label-init : goal.loop-label-init
loop-label-init c = rw c.new-labels.ensures.items (sym (behind_none (labels_in c.args.bytes.now)))

pub returns-then-is_empty : goal.returns-then-is_empty
returns-then-is_empty c =
    let none : c.in-Some.label.now ≡ [] = nil_from_length _ (eqb-true _ _ (sym c.is_empty.ensures ∙ c.if-is_empty.true)) in
    c.loop-label.invariant
    ∙ labels_end (map (λ label. label.now) c.loop-label.labels.items) c.loop-label.rest.now c.in-Some.behind.now
    (c.in-Some.ensures ∙ ap (λ (label : List ℕ). Some (label, c.in-Some.behind.now)) none)

pub loop-label-preserved : goal.loop-label-preserved
loop-label-preserved c =
    rw (c.in_ok-push.ensures.items, map-append)
    (c.loop-label.invariant
    ∙ labels_more (map (λ label. label.now) c.loop-label.labels.items) c.loop-label.rest.now c.in-Some.label.now c.in-Some.behind.now
    c.in-Some.ensures (some_left c.in-Some.label.now (sym c.is_empty.ensures ∙ c.if-is_empty.false)))

pub returns : goal.returns
returns c memory = c.loop-label.invariant ∙ labels_stop (map (λ label. label.now) c.loop-label.labels.items) c.loop-label.rest.now c.in_default.ensures
