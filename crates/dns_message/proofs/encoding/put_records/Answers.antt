use Rattle.std.proofs.Common.{arith}
use Rattle.dns_message.specs.Spelling.{record_bytes}
use Rattle.dns_message.proofs.SpellingLemmas.{item_fits}
use Rattle.dns_message.proofs.encoding.put_records.Goals as goal

pub put_record-requires : goal.put_record-requires
put_record-requires c = omega (arith, item_fits record_bytes c.args.records.now c.loop-item.item-index c.item-item.result c.loop-item-test.true c.item-item.is, c.requires)
