use Rattle.std.proofs.Common.{◌≡◌, ◌∙◌, length, refl, sym}
use Rattle.std.proofs.lemmas.Bool.{eqb-true}
use Rattle.dns_message.proofs.PrintingLemmas.{printed_all, start_root, start_some}
use Rattle.dns_message.proofs.name.Name.to_text.Goals as goal
use Rattle.dns_message.proofs.name.Name.to_text.Goals.{then-labels-eq0+in_ok-push, else-labels-eq0}

pub returns : goal.returns
returns c =
    let none : length c.loop-rest.rest.now ≡ 0 = eqb-true _ 0 (sym c.loop-rest-test.ensures) in
    let all = printed_all c.loop-rest.text.items c.if-labels-eq0.text.items c.loop-rest.rest.now c.args.self.now none c.loop-rest.invariant.text in
    record {
      printed = c.from_vec.ensures ∙ all (elim c.if-labels-eq0.branch [
        | then-labels-eq0+in_ok-push w ↦ start_root _ _ (rw c.labels.ensures at w.if-labels-eq0.true) (rw (w.text-is, w.in_ok-push.ensures.items, c.in_ok-text.ensures.items) refl)
        | else-labels-eq0 w ↦ start_some _ _ (rw c.labels.ensures at w.if-labels-eq0.false) (rw (w.text-is, c.in_ok-text.ensures.items) refl)
      ]);
    }
