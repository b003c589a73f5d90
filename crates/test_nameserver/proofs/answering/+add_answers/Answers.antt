use Rattle.std.proofs.Common.{◌≡◌, [], ◌∷◌, ◌++◌, ◌<◌, ◌⊎◌, inl, inr, ap, ◌∙◌, rules}
use Rattle.std.proofs.lemmas.Result.{on_ok_weaker}
use Rattle.test_nameserver.specs.Zone.{records_of}
use Rattle.test_nameserver.specs.Answers.{of_kind}
use Rattle.test_nameserver.proofs.AnswerLemmas.{answers_end, answers_none, answers_more}
use Rattle.test_nameserver.proofs.answering.+add_answers.Goals as goal
use Rattle.test_nameserver.proofs.answering.+add_answers.Goals.{then-len-before-via-then-len-before, then-len-before-via-else-len-before+then-aliases-eq0}

pub returns-then-len-before : goal.returns-then-len-before
returns-then-len-before t c =
    let grown : c.add_kind.new.answers ≡ c.args.answers.now ++ of_kind c.args.kind (records_of c.args.name.now c.args.zone.now) = rw (c.as_slice.ensures.value, c.in_ok-found.ensures) at c.in_ok-add_kind.ensures in
    let ends : (c.len-before.result < c.len.result) ⊎ (c.args.aliases ≡ 0) = elim c.then-len-before.branch [
      | then-len-before-via-then-len-before w ↦ inl w.if-len-before.true
      | then-len-before-via-else-len-before+then-aliases-eq0 w ↦ inr w.if-aliases-eq0.true
    ] in
    answers_end c.args.zone.now c.args.kind c.args.name.now c.args.aliases c.args.answers.now c.add_kind.new.answers c.len-before.result c.len.result grown c.len-before.ensures c.len.ensures ends

pub returns-in-Some : goal.returns-in-Some
returns-in-Some t c =
    let grown : c.add_kind.new.answers ≡ c.args.answers.now ++ of_kind c.args.kind (records_of c.args.name.now c.args.zone.now) = rw (c.as_slice.ensures.value, c.in_ok-found.ensures) at c.in_ok-add_kind.ensures in
    let alias = rw (c.in-Some.is, c.as_slice-2.ensures.value, c.in_ok-found.ensures) at c.in_ok-item.ensures in
    on_ok_weaker c.add_answers.result (λ rest.
    answers_more c.args.zone.now c.args.kind c.args.name.now c.args.aliases c.args.answers.now c.add_kind.new.answers c.len-before.result c.len.result grown c.len-before.ensures c.len.ensures
    c.if-len-before.false (search rules) _ _ _ _ alias (c.in_ok-push-in-Some.ensures.ok ∙ ap (λ rr. c.add_kind.new.answers ++ rr ∷ []) c.in_ok-copy_of-in-Some.ensures) rest) c.add_answers.ensures

pub returns : goal.returns
returns t c =
    let grown : c.add_kind.new.answers ≡ c.args.answers.now ++ of_kind c.args.kind (records_of c.args.name.now c.args.zone.now) = rw (c.as_slice.ensures.value, c.in_ok-found.ensures) at c.in_ok-add_kind.ensures in
    let none = rw (c.in-None.is, c.as_slice-2.ensures.value, c.in_ok-found.ensures) at c.in_ok-item.ensures in
    answers_none c.args.zone.now c.args.kind c.args.name.now c.args.aliases c.args.answers.now c.add_kind.new.answers c.len-before.result c.len.result grown c.len-before.ensures c.len.ensures
    c.if-len-before.false (search rules) none
