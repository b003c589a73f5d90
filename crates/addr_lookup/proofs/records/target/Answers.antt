use Rattle.addr_lookup.proofs.RecordLemmas.{alias_is, alias_reads}
use Rattle.addr_lookup.proofs.records.target.Goals as goal

pub unreachable-requires : goal.unreachable-requires
unreachable-requires c =
    let fault = c.in-Err-BadRdata.field-0-is in
    alias_reads c.args.item.now c.requires.alias c.requires.formed (c.in-Err-BadRdata.ensures.refused (λ e. absurd cc))

pub returns-in-Ok : goal.returns-in-Ok
returns-in-Ok c = c.alias_in.ensures _ (alias_is c.args.item.now c.in-Ok.typed c.requires.alias c.requires.formed c.in-Ok.ensures.read)
