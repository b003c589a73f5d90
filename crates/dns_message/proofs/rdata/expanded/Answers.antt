use Rattle.std.proofs.Common.{◌≡◌, ℕ, ltb, false, ◌∙◌, sym, refl, arith}
use Rattle.std.proofs.lemmas.Bool.Decides.{nat_tests}
use Rattle.std.proofs.lemmas.Result.{err_from_is_err_and}
use Rattle.dns_message.specs.declared.fault.MessageFault.TheVariants.{BadRdata}
use Rattle.dns_message.specs.Reading.{or_else, expanded_name}
use Rattle.dns_message.proofs.ItemLemmas.{joined_more, joined_stop}
use Rattle.dns_message.proofs.rdata.expanded.Goals as goal

pub returns-in_err-next : goal.returns-in_err-next
returns-in_err-next c =
    let p = err_from_is_err_and c.from_residual-in_err-next.result c.from_residual-in_err-next.ensures.1 in
    let item = λ (q : ℕ). or_else (BadRdata c.args.at) (expanded_name c.args.bytes.now q) in
    let test : ltb c.args.len c.args.shape.front ≡ false = grind (arith, nat_tests) in
    rw (p.1, p.2) (λ ne.
    let whole = sym c.loop.invariant.read ∙ joined_stop item c.loop.rdata.items c.args.shape.names c.loop.counter c.loop.next c.in_err-next.field-0.0 c.loop-test.true (c.in_err-next.ensures.read ne) in
    rw (test, whole) refl)

pub loop-preserved : goal.loop-preserved
loop-preserved c =
    let item = λ (q : ℕ). or_else (BadRdata c.args.at) (expanded_name c.args.bytes.now q) in
    let h = c.in_ok-next.ensures.read in
    record {
      within = c.in_ok-next.ensures.within;
      read = rw h.2 (sym (joined_more item c.loop.rdata.items c.args.shape.names c.loop.counter c.loop.next h.0 c.in_ok-next.next c.loop-test.true h.1) ∙ c.loop.invariant.read);
    }
