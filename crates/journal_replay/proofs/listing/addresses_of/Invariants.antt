use Rattle.std.proofs.Common.{◌≡◌, map, take}
use Rattle.journal_replay.proofs.listing.addresses_of.Given as goal

-- where the servers before this index listen
abbrev pub invariant-loop-server : goal.invariant-loop-server
invariant-loop-server l = l.addresses.items ≡ map (λ server. server.address) (take l.server-index l.list)
