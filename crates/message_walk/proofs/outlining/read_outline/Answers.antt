use Rattle.std.proofs.Common.{◌∙◌, sym}
use Rattle.message_walk.proofs.OutlineLemmas.{outline_many, outline_other, outline_same, outline_short, outline_unread}
use Rattle.message_walk.proofs.outlining.read_outline.Goals as goal

pub returns-then-bytes-lt-HEADER_LEN : goal.returns-then-bytes-lt-HEADER_LEN
returns-then-bytes-lt-HEADER_LEN c = sym (outline_short c.args.exact c.args.asked.now c.args.wanted c.args.bytes.now c.if-bytes-lt-HEADER_LEN.true)

pub returns-then-u16_in-ne1 : goal.returns-then-u16_in-ne1
returns-then-u16_in-ne1 c =
    sym (outline_many c.args.exact c.args.asked.now c.args.wanted c.args.bytes.now (λ one. c.if-u16_in-ne1.true (c.u16_in.ensures ∙ one)))

pub returns-in_default : goal.returns-in_default
returns-in_default c =
    sym (outline_unread c.args.exact c.args.asked.now c.args.wanted c.args.bytes.now c.if-bytes-lt-HEADER_LEN.false (sym c.u16_in.ensures ∙ c.if-u16_in-ne1.false) c.in_default.field-0 c.in_default.ensures.read)

pub returns-then-not-asks : goal.returns-then-not-asks
returns-then-not-asks c =
    let found = c.in-Ok.ensures.read in
    sym (outline_other c.args.exact c.args.asked.now c.args.wanted c.args.bytes.now c.if-bytes-lt-HEADER_LEN.false (sym c.u16_in.ensures ∙ c.if-u16_in-ne1.false) found.0 c.in-Ok.at found.1 (sym found.2 ∙ c.if-not-asks.true))

pub returns : goal.returns
returns c =
    let found = c.in-Ok.ensures.read in
    c.outline_behind.ensures
    ∙ sym (outline_same c.args.exact c.args.asked.now c.args.wanted c.args.bytes.now c.if-bytes-lt-HEADER_LEN.false (sym c.u16_in.ensures ∙ c.if-u16_in-ne1.false) found.0 c.in-Ok.at found.1 (sym found.2 ∙ c.if-not-asks.false))
