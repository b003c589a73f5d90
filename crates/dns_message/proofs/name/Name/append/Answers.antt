use Rattle.std.proofs.Common.{◌≡◌, ◌+◌, length, arith}
use Rattle.dns_message.specs.Name.{wire_length}
use Rattle.dns_message.proofs.WireLemmas.{wire_size}
use Rattle.dns_message.proofs.name.Name.append.Goals as goal

pub append_wire-requires-clause-room : goal.append_wire-requires-clause-room
append_wire-requires-clause-room c =
    let size : length c.as_slice.result.now + 1 ≡ wire_length c.args.domain.now = rw (c.as_slice.ensures.value, ← c.domain.view_is) (wire_size _ _ c.domain.invariant) in
    omega (arith, size, c.requires)
