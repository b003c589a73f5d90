use Rattle.std.proofs.Common.{◌∙◌, sym, arith}
use Rattle.std.proofs.lemmas.Grind.{common_steps}
use Rattle.std.proofs.lemmas.Result.{err_from_is_err_and}
use Rattle.dns_message.specs.Reading.{record_of}
use Rattle.dns_message.proofs.ItemLemmas.{items_more, items_stop, items_end}
use Rattle.dns_message.proofs.PointerLemmas.{last_pushed}
use Rattle.dns_message.proofs.decoding.records_at.Goals as goal

pub loop-preserved : goal.loop-preserved
loop-preserved c = record {
  within = c.in_ok-found.ensures.end;
  counted = grind (arith, common_steps);
  last = rw (c.in_ok-push.ensures.items, last_pushed c.loop.records.items c.in_ok-found.found.item) c.in_ok-found.ensures.stands;
  read = rw c.in_ok-push.ensures.items (sym (items_more (record_of c.args.bytes.now) c.loop.records.items c.args.count c.loop.counter c.loop.next c.in_ok-found.found.item c.in_ok-found.found.next c.loop-test.true c.in_ok-found.ensures.read) ∙ c.loop.invariant.read);
}

pub returns-in_err-found-clause-read : goal.returns-in_err-found-clause-read
returns-in_err-found-clause-read c =
    let p = err_from_is_err_and c.from_residual-in_err-found.result c.from_residual-in_err-found.ensures.1 in
    rw (p.1, p.2) (λ ne. sym c.loop.invariant.read
    ∙ items_stop (record_of c.args.bytes.now) c.loop.records.items c.args.count c.loop.counter c.loop.next c.in_err-found.field-0.0 c.loop-test.true (c.in_err-found.ensures.read ne))

pub returns-clause-read : goal.returns-clause-read
returns-clause-read c =
    rw c.from_vec.ensures (sym c.loop.invariant.read ∙ items_end (record_of c.args.bytes.now) c.loop.records.items c.args.count c.loop.counter c.loop.next c.loop-test.false)
