use Rattle.std.proofs.Common.{arith}
use Rattle.test_nameserver.proofs.ReplyLemmas.{cut_short}
use Rattle.test_nameserver.proofs.replying.cut_reply.Goals as goal

pub unreachable-requires : goal.unreachable-requires
unreachable-requires c =
    let long = c.in-Err-TooLong.ensures.too_long c.in-Err-TooLong.field-0-is in
    let short = cut_short c.args.query.now c.reply_flags-flags.result (rw c.wire_len-short.ensures.value at c.wire_len-short.ensures.short) in
    let is = rw c.new.ensures at c.in_ok-reply.ensures in
    omega (arith, rw is at long, short)
