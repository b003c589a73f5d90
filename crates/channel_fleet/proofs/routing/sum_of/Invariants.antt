use Rattle.std.proofs.Common.{sum_by, take, ◌*◌, ◌≡◌, ◌≤◌}
use Rattle.std.specs.Char.{to_ascii_lowercase}
use Rattle.channel_fleet.proofs.routing.sum_of.Given as goal

-- the sum is that of the bytes so far, each of which is below 256
abbrev pub invariant-loop-byte : goal.invariant-loop-byte
invariant-loop-byte l = (l.sum ≡ sum_by to_ascii_lowercase (take l.byte-index l.bytes)) × (l.sum ≤ 255 * l.byte-index)
