-- The bytes that an attempt is to send.
use Rattle.std.specs.Prelude.{List, [], if◌then◌else◌, length, ℕ, ◌%◌, ◌/◌, ◌==◌, ◌∷◌}
use Rattle.net_addr.specs.declared.addr.Addr.TheVariants.{V4}
use Rattle.c_types.specs.declared.outgoing.Outgoing.{Outgoing}

-- a query as a datagram, over link 0; else as bytes of a stream, where it stands behind two bytes with its length (RFC 1035, section 4.2.2)
abbrev pub sending : Outgoing → List ℕ
sending outgoing =
    if outgoing.link == 0 then outgoing.message else
    length outgoing.message / 256 % 256 ∷ length outgoing.message % 256 ∷ outgoing.message

-- nothing is to be sent
abbrev pub nothing : Outgoing
nothing = record { link = 0; address = V4 0; message = [] }
