use Rattle.std.proofs.Common.{◌≡◌, [], sym, ap, ◌∙◌}
use Rattle.std.proofs.lemmas.Bool.{eqb-true}
use Rattle.std.proofs.lemmas.List.{nil_from_length}
use Rattle.edns_opt.specs.Reading.{first_option}
use Rattle.edns_opt.specs.declared.opt.EdnsItem.{EdnsItem}
use Rattle.dns_cookie.proofs.OptionsLemmas.{all_left, cookie_here, cookie_on, left_end, left_first}
use Rattle.dns_cookie.proofs.options.cookie_in.Goals as goal

pub loop-rest-init : goal.loop-rest-init
loop-rest-init c = all_left c.args.rdata.now

pub returns-in_default : goal.returns-in_default
returns-in_default c = λ items e. sym (left_end items c.loop-rest.rest.now (c.loop-rest.invariant items e) c.in_default.ensures)

pub returns-then-code-eq-COOKIE_CODE : goal.returns-then-code-eq-COOKIE_CODE
returns-then-code-eq-COOKIE_CODE c = λ items e.
    let item : EdnsItem = record { code = c.in-Some.code; content = c.in-Some.content.now } in
    let first = left_first items c.loop-rest.rest.now item c.in-Some.behind.now (c.loop-rest.invariant items e) c.in-Some.ensures in
    sym (first.3 ∙ cookie_here item first.1 c.if-code-eq-COOKIE_CODE.true)

pub loop-rest-preserved : goal.loop-rest-preserved
loop-rest-preserved c = λ items e.
    let item : EdnsItem = record { code = c.in-Some.code; content = c.in-Some.content.now } in
    let first = left_first items c.loop-rest.rest.now item c.in-Some.behind.now (c.loop-rest.invariant items e) c.in-Some.ensures in
    (first.0, first.1, first.2, first.3 ∙ cookie_on item first.1 c.if-code-eq-COOKIE_CODE.false)

pub returns : goal.returns
returns c = λ items e.
    let end : c.loop-rest.rest.now ≡ [] = nil_from_length _ (eqb-true _ _ (sym c.is_empty.ensures ∙ c.loop-rest-test.false)) in
    sym (left_end items c.loop-rest.rest.now (c.loop-rest.invariant items e) (ap first_option end))
