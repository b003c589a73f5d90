use Rattle.channel_table.proofs.Base.{◌≡◌, take, keyed_from}
use Rattle.channel_table.proofs.table.opening_list.Given as goal

-- the servers before this index have their keys
abbrev pub invariant-loop-index : goal.invariant-loop-index
invariant-loop-index l = l.list.items ≡ keyed_from 0 (take l.index l.servers)
