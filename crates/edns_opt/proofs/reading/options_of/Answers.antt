use Rattle.std.proofs.Common.{◌≡◌, [], ℕ, Some, sym, ◌∙◌, arith}
use Rattle.std.proofs.lemmas.Bool.{eqb-true}
use Rattle.std.proofs.lemmas.List.{nil_from_length}
use Rattle.edns_opt.specs.declared.opt.EdnsItem.{EdnsItem}
use Rattle.edns_opt.specs.Options.{AreBytes}
use Rattle.edns_opt.specs.Reading.{first_option}
use Rattle.edns_opt.proofs.OptionsLemmas.{read_more, read_all_again, read_stops_again, nonempty}
use Rattle.edns_opt.proofs.reading.options_of.Goals as goal

pub loop-rest-preserved : goal.loop-rest-preserved
loop-rest-preserved c =
    let item : EdnsItem = record { code = c.in-Some.code; content = c.in_ok-content.content } in
    let first : first_option c.loop-rest.rest.now ≡ Some (item, c.in-Some.behind.now) = rw c.in_ok-content.ensures c.in-Some.ensures in
    let bytes : AreBytes c.args.rdata.now = λ (i : ℕ). omega (arith, c.type_inv.rdata i) in
    rw c.in_ok-push.ensures.ok (read_more c.args.rdata.now c.loop-rest.rest.now c.in-Some.behind.now c.loop-rest.options item bytes c.loop-rest.invariant first)

pub returns-in_default-clause-computed : goal.returns-in_default-clause-computed
returns-in_default-clause-computed c =
    read_stops_again c.args.rdata.now c.loop-rest.rest.now c.loop-rest.options c.loop-rest.invariant (λ (end : c.loop-rest.rest.now ≡ []). absurd (nonempty _ end (sym c.is_empty.ensures ∙ c.loop-rest-test.true))) c.in_default.ensures

pub returns-clause-computed : goal.returns-clause-computed
returns-clause-computed c =
    read_all_again c.args.rdata.now c.loop-rest.rest.now c.loop-rest.options c.loop-rest.invariant (nil_from_length _ (eqb-true _ _ (sym c.is_empty.ensures ∙ c.loop-rest-test.false)))
