-- The log of such a network: its calls were made one after the other, from its start on, each by its meaning.
use Rattle.std.specs.Prelude.{◌≡◌, ℕ, List, [], ◌∷◌}
use Rattle.dns_message.specs.declared.message.Record.{Record}
use Rattle.net_world.specs.declared.log.WorldCall.{WorldCall}
use Rattle.net_world.specs.declared.log.WorldCall.TheVariants.{Serve, Now, Word, Send, Connect, Write, Receive, Close, Wait}
use Rattle.test_nameserver.specs.Peer.{PeerState, at_start}
use Rattle.test_nameserver.specs.PeerCalls.{ReadsClock, DrawsNext, Sends, Connects, WritesAll, ReceivesFirst, ClosesLink, WaitsUntil, logged}

-- the network was called so, and answered so: between the two states lies what the call means
abbrev pub Makes : WorldCall → PeerState → PeerState → Type 0
Makes (Serve server address) old new = new ≡ logged (Serve server address) old
Makes (Now reading) old new = ReadsClock old new reading
Makes (Word word) old new = DrawsNext old new word
Makes (Send server bytes sent) old new = Sends server bytes old new sent
Makes (Connect server link sent) old new = Connects server link old new sent
Makes (Write link bytes wrote) old new = WritesAll link bytes old new wrote
Makes (Receive got) old new = ReceivesFirst old new got
Makes (Close link) old new = ClosesLink link old new
Makes (Wait until waited) old new = WaitsUntil until old new waited

-- these calls were made, one after the other
abbrev pub AreMade : List WorldCall → PeerState → PeerState → Type 0
AreMade [] old new = new ≡ old
AreMade (call ∷ calls) old new = (middle : PeerState) × Makes call old middle × AreMade calls middle new

-- a network of this zone and this seed tells these calls: they lead from its start to where it stands then
pub record IsLogOf (zone : List Record) (seed : ℕ) (calls : List WorldCall) : Type 0 where
  pub last : PeerState
  pub made : AreMade calls (at_start zone seed) last
