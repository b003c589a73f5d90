use Rattle.std.proofs.Common.{[], ◌∷◌, ◌++◌, ◌∙◌, sym}
use Rattle.dns_message.proofs.Theorems.{items_more}
use Rattle.dns_message.specs.Reading.{question_of}
use Rattle.dns_cookie.proofs.places.questions_end.Goals as goal

pub loop-preserved : goal.loop-preserved
loop-preserved c =
    let one = c.in_ok-next.ensures.read in
    let so_far = c.loop.invariant.read in
    record {
      within = c.in_ok-next.ensures.within;
      read = (
        so_far.0 ++ one.0 ∷ [],
        sym (items_more (question_of c.args.bytes.now) so_far.0 c.args.count c.loop.counter c.loop.next one.0 c.in_ok-next.next c.loop-test.true one.1) ∙ so_far.1,
      );
    }
