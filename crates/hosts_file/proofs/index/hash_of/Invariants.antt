use Rattle.std.proofs.Common.{◌≡◌, [], ◌∷◌, map, take, fold}
use Rattle.std.specs.Char.{to_ascii_lowercase}
use Rattle.std.specs.Hash.FoldHasher.{initial, write}
use Rattle.dns_message.specs.Wire.{wire_bytes}
use Rattle.hosts_file.proofs.index.hash_of.Given as goal

-- the bytes so far have been written
abbrev pub invariant-loop-byte : goal.invariant-loop-byte
invariant-loop-byte l = l.hasher ≡ fold (λ hasher byte. write hasher (byte ∷ [])) initial (map to_ascii_lowercase (take l.byte-index (wire_bytes l.name)))
