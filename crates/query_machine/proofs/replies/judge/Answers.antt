use Rattle.std.proofs.Common.{Some, refl, sym, ap, ◌∙◌}
use Rattle.std.specs.Prelude.{option_map}
use Rattle.byteorder.specs.Endian.{big_from}
use Rattle.query_machine.specs.Replies.{verdict_by}
use Rattle.query_machine.proofs.ReplyLemmas.{outline_means, unseen}
use Rattle.query_machine.proofs.replies.judge.Goals as goal

pub returns-then-not-may_answer : goal.returns-then-not-may_answer
returns-then-not-may_answer c =
    rw (unseen c.args.id c.args.exact (Some c.args.asked.now) c.args.bytes.now (sym c.may_answer.ensures ∙ c.if-not-may_answer.true)) refl

pub returns : goal.returns
returns c =
    let terms = c.args.terms in
    let seen = sym c.may_answer.ensures ∙ c.if-not-may_answer.false in
    rw (c.judged_by.ensures, c.u16_at.ensures)
    (ap (option_map (verdict_by terms.flags terms.tcp terms.edns (big_from 2 2 c.args.bytes.now))) c.in-Some.ensures
    ∙ outline_means c.args.id c.args.exact c.args.asked.now terms.flags terms.tcp terms.edns terms.wanted c.args.bytes.now seen)
