use Rattle.std.proofs.Common.{◌≡◌, ◌-◌, Some, refl, sym, ap, ◌∙◌, arith}
use Rattle.std.specs.Prelude.{option_map}
use Rattle.dns_message.specs.Reading.{record_of}
use Rattle.dns_message.specs.declared.message.Record.{Record}
use Rattle.dns_cookie.proofs.PlacesLemmas.{find_here, find_on, left_more}
use Rattle.dns_cookie.proofs.places.opt_rdata.Goals as goal

pub loop-init : goal.loop-init
loop-init c = λ records end e. (records, let all : c.args.count - 0 ≡ c.args.count = omega arith in rw all e, refl)

pub returns-in_err-place : goal.returns-in_err-place
returns-in_err-place c = λ records end e.
    let one = left_more (record_of c.args.bytes.now) records end c.args.count c.loop.counter c.loop.next c.loop-test.true (c.loop.invariant records end e) in
    let stands = c.in_err-place.ensures.stands in
    let no = sym one.3 ∙ stands.1 in
    absurd cc

pub returns-then-place-eq-KIND_OPT : goal.returns-then-place-eq-KIND_OPT
returns-then-place-eq-KIND_OPT c = λ records end e.
    let one = left_more (record_of c.args.bytes.now) records end c.args.count c.loop.counter c.loop.next c.loop-test.true (c.loop.invariant records end e) in
    let stands = c.in_ok-place.ensures.stands one.0 one.1 one.3 in
    let is = c.if-place-eq-KIND_OPT.true in
    sym (ap (option_map (λ (rr : Record). rr.rdata)) (one.5 ∙ find_here one.0 one.2 (stands.0 ∙ is)) ∙ ap (λ rdata. Some rdata) (stands.2 is))

pub loop-preserved : goal.loop-preserved
loop-preserved c = λ records end e.
    let one = left_more (record_of c.args.bytes.now) records end c.args.count c.loop.counter c.loop.next c.loop-test.true (c.loop.invariant records end e) in
    let stands = c.in_ok-place.ensures.stands one.0 one.1 one.3 in
    (one.2, rw (← stands.1) one.4, one.5 ∙ find_on one.0 one.2 (λ kind. c.if-place-eq-KIND_OPT.false (sym stands.0 ∙ kind)))
