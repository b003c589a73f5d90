use Rattle.std.proofs.Common.{arith}
use Rattle.dns_message.proofs.NameLemmas.{wire_some}
use Rattle.dns_message.proofs.name_reading.add_run.Goals as goal

pub run_at-requires : goal.run_at-requires
run_at-requires c = (omega (arith, c.wire_len.ensures.value, wire_some c.args.name.now), c.wire_len.ensures.short)
