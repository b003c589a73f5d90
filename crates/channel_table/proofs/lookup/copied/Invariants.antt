use Rattle.channel_table.proofs.Base.{◌≡◌, take}
use Rattle.channel_table.proofs.lookup.copied.Given as goal

abbrev pub invariant-loop-name : goal.invariant-loop-name
invariant-loop-name l = l.copies.items ≡ take l.name-index l.names
