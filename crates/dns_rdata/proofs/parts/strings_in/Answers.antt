use Rattle.std.proofs.Common.{◌≡◌, [], List, ℕ, sym, ap, ◌∙◌}
use Rattle.std.proofs.lemmas.Bool.{eqb-true}
use Rattle.std.proofs.lemmas.List.{nil_from_length}
use Rattle.dns_rdata.specs.Parts.{strings_in}
use Rattle.dns_rdata.proofs.PartsLemmas.{after, after_none, strings_more, strings_stop, strings_end, some_left}
use Rattle.dns_rdata.proofs.parts.strings_in.Goals as goal

pub loop-rest-init : goal.loop-rest-init
loop-rest-init c = rw c.new-strings.ensures (sym (after_none (strings_in c.args.bytes.now)))

pub returns-in_default : goal.returns-in_default
returns-in_default c memory =
    c.loop-rest.invariant ∙ strings_stop c.loop-rest.strings c.loop-rest.rest.now (some_left c.loop-rest.rest.now (sym c.is_empty.ensures ∙ c.loop-rest-test.true)) c.in_default.ensures

pub loop-rest-preserved : goal.loop-rest-preserved
loop-rest-preserved c =
    rw (c.in_ok-push.ensures.ok, c.in_ok-of.ensures)
    (c.loop-rest.invariant ∙ strings_more c.loop-rest.strings c.loop-rest.rest.now c.in-Some.string.now c.in-Some.behind.now c.in-Some.ensures)

pub returns : goal.returns
returns c =
    let none : c.loop-rest.rest.now ≡ [] = nil_from_length _ (eqb-true _ _ (sym c.is_empty.ensures ∙ c.loop-rest-test.false)) in
    c.loop-rest.invariant ∙ ap (λ (rest : List ℕ). after c.loop-rest.strings (strings_in rest)) none ∙ strings_end c.loop-rest.strings
