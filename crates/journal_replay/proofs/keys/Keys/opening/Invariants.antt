use Rattle.std.proofs.Common.{◌≡◌, take}
use Rattle.channel_model.specs.Servers.{keyed_from}
use Rattle.journal_replay.proofs.keys.Keys.opening.Given as goal

-- the servers before this index have their keys
abbrev pub invariant-loop-index : goal.invariant-loop-index
invariant-loop-index l = l.list.items ≡ keyed_from 0 (take l.index l.servers)
