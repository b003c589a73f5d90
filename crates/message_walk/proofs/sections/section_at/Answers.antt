use Rattle.std.proofs.Common.{◌∙◌, sym}
use Rattle.dns_message.specs.Reading.{record_of}
use Rattle.message_walk.proofs.SectionLemmas.{after_more}
use Rattle.message_walk.proofs.sections.section_at.Goals as goal

pub loop-preserved : goal.loop-preserved
loop-preserved c =
    let one = c.in_ok-one.ensures.read in
    record {
      within = c.in_ok-one.ensures.end;
      read = rw (c.together-section.ensures, one.2) (sym (after_more c.args.wanted (record_of c.args.bytes.now) c.loop.section c.args.count c.loop.counter c.loop.next one.0 c.in_ok-one.after c.loop-test.true one.1) ∙ c.loop.invariant.read);
    }
