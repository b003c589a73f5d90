-- How a network in memory was made, as the logic stores it. Machinery, which no promise speaks of.
use Rattle.std.specs.Coded.{Coded, codes}
use Rattle.std.specs.Prelude.{ℕ, List}
use base.Stored.{Gv}
use Rattle.dns_message.specs.declared.message.Record.{Record}
use Rattle.test_nameserver.specs.Peer.{PeerState}

-- how the logic stores a zone and a seed
pub making_code : Coded (List Record × ℕ)
making_code = Prim.hlevel codes

-- what tells how a network was made: its zone and its seed
abbrev pub origin_of : PeerState → Gv
origin_of state = making_code.code (state.zone, state.seed)
