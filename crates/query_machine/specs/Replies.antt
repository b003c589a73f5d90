-- The headers that a reply may have, and what its outline means.
use Rattle.byteorder.specs.Endian.{big_from}
use Rattle.std.specs.Prelude.{Bool, List, Option, Some, None, if◌then◌else◌, is_none, length, nat_le, not, option_map, ◌%◌, ◌&&◌, ◌*◌, ◌+◌, ◌/◌, ◌==◌, ◌^◌, ℕ}
use Rattle.chan_types.specs.declared.status.Status.TheVariants.{NoData, Success}
use Rattle.channel_model.specs.Verdict.{is_refusal, status_of_rcode}
use Rattle.channel_model.specs.declared.judged.Judged.{Judged}
use Rattle.channel_model.specs.declared.judged.Judged.TheVariants.{Failed, Final, NextPlain, NextTcp}
use Rattle.dns_message.specs.Numbers.{has_bit}
use Rattle.channel_model.specs.Replies as model
use Rattle.channel_model.specs.Verdict.{has_answer}
use Rattle.message_walk.specs.declared.outlining.Outline.{Outline}
use Rattle.query_machine.specs.declared.reply.Reply.{Reply}
use Rattle.resolv_options.specs.declared.flags.Flags.{Flags}

-- the message and its OPT record, as the channel's model has them
abbrev pub reply_seen : Reply → model.Reply
reply_seen reply = record { message = reply.message; opt = reply.opt }

-- what a reply says: an answer of this kind, or any where none is wanted, and the upper bits of the response code
abbrev pub outline_seen : Option ℕ → model.Reply → Outline
outline_seen wanted reply = record { answered = has_answer wanted reply.message.answers; extended = option_map (λ opt. opt.ext_rcode) reply.opt }

-- the bytes have the header of a response to a standard query with this identifier and one question (RFC 1035, section 4.1.1)
abbrev pub may_answer : ℕ → List ℕ → Bool
may_answer id bytes =
    nat_le 12 (length bytes) && (big_from 0 2 bytes == id)
    && has_bit 15 (big_from 2 2 bytes) && ((big_from 2 2 bytes / 2 ^ 11) % 16 == 0) && (big_from 4 2 bytes == 1)

-- the response code by the flags of a header, and the upper eight bits of an OPT record if there is one (RFC 6891, section 6.1.3)
abbrev pub code_of : ℕ → Option ℕ → ℕ
code_of header None = header % 16
code_of header (Some extended) = extended * 16 + header % 16

-- the verdict on a reply with these flags in its header and this outline
abbrev pub verdict_by : Flags → Bool → Bool → ℕ → Outline → Judged
verdict_by flags over_tcp had_opt header outline =
    let code = code_of header outline.extended in
    if has_bit 9 header && not over_tcp && not flags.igntc then NextTcp else
    if (header % 16 == 1) && is_none outline.extended && had_opt then NextPlain else
    if is_refusal code && not flags.nocheckresp then Failed (status_of_rcode code) else
    if code == 0 then Final (if outline.answered then Success else NoData) else
    Final (status_of_rcode code)
