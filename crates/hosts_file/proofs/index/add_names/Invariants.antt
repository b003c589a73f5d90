use Rattle.std.proofs.Common.{◌≡◌, ◌++◌, ◌∷◌, map, take}
use Rattle.hosts_file.specs.Index.{hashed}
use Rattle.hosts_file.proofs.index.add_names.Given as goal

-- the canonical name and the aliases so far
abbrev pub invariant-loop-alias : goal.invariant-loop-alias
invariant-loop-alias l = l.names.items ≡ l.fn.names.items ++ map (hashed l.number) (l.line.canonical ∷ take l.alias-index l.line.aliases)
