use Rattle.std.proofs.Common.{sym}
use Rattle.addr_lookup.proofs.RecordLemmas.{sixteen_say}
use Rattle.addr_lookup.proofs.records.address_in.Goals as goal

pub returns-in-Aaaa : goal.returns-in-Aaaa
returns-in-Aaaa c = sixteen_say c.args.kind c.args.item.now c.read_u128.result _ c.in-Aaaa.is (sym c.if-is_of_kind-2.ensures) c.requires c.as_slice-in-Aaaa.ensures c.read_u128.ensures
