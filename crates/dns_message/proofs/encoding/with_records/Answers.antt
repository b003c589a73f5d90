use Rattle.std.proofs.Common.{arith}
use Rattle.dns_message.specs.Spelling.{record_bytes}
use Rattle.dns_message.proofs.SpellingLemmas.{record_length, total_more, item_fits}
use Rattle.dns_message.proofs.encoding.with_records.Goals as goal

pub returns-then-len-gt-MESSAGE_MOST : goal.returns-then-len-gt-MESSAGE_MOST
returns-then-len-gt-MESSAGE_MOST c =
    omega (arith, item_fits record_bytes c.args.records.now c.loop-item.item-index c.item-item.result c.loop-item-test.true c.item-item.is, record_length c.item-item.result)

pub returns-then-total-gt-MESSAGE_MOST : goal.returns-then-total-gt-MESSAGE_MOST
returns-then-total-gt-MESSAGE_MOST c =
    omega (arith, item_fits record_bytes c.args.records.now c.loop-item.item-index c.item-item.result c.loop-item-test.true c.item-item.is, record_length c.item-item.result)

pub loop-item-preserved : goal.loop-item-preserved
loop-item-preserved c =
    (omega arith, omega (arith, total_more record_bytes c.args.records.now c.loop-item.item-index c.item-item.result c.loop-item-test.true c.item-item.is, record_length c.item-item.result))
