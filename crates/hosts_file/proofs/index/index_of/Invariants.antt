use Rattle.std.proofs.Common.{◌≡◌, take}
use Rattle.hosts_file.specs.Index.{hashed_names}
use Rattle.hosts_file.proofs.index.index_of.Given as goal

-- the names of the lines so far
abbrev pub invariant-loop-number : goal.invariant-loop-number
invariant-loop-number l = l.names.items ≡ hashed_names 0 (take l.number l.lines)
