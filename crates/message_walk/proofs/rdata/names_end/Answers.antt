use Rattle.std.proofs.Common.{◌≡◌, ℕ, Ok, ◌∙◌, sym, refl}
use Rattle.dns_message.specs.Reading.{expanded_name, joined_of, or_else}
use Rattle.dns_message.specs.Spelling.{name_bytes}
use Rattle.message_walk.proofs.NamesLemmas.{end_found, ends_last, ends_more}
use Rattle.message_walk.proofs.rdata.names_end.Goals as goal

pub loop-preserved : goal.loop-preserved
loop-preserved c =
    let item = λ (p : ℕ). or_else c.args.bad (expanded_name c.args.bytes.now p) in
    let name = c.in-Ok.ensures.read in
    let named : item c.loop.next ≡ Ok (name_bytes name.0, c.in-Ok.end) = rw name.1 refl in
    record {
      within = c.in-Ok.ensures.within.1;
      read = sym (ends_more item c.args.count c.loop.counter c.loop.next (name_bytes name.0) c.in-Ok.end c.loop-test.true named) ∙ c.loop.invariant.read;
    }

pub returns-clause-read : goal.returns-clause-read
returns-clause-read c =
    let item = λ (p : ℕ). or_else c.args.bad (expanded_name c.args.bytes.now p) in
    end_found (joined_of item c.args.count c.args.at) c.loop.next (sym c.loop.invariant.read ∙ ends_last item c.args.count c.loop.counter c.loop.next c.loop-test.false)
