-- What a call of a World is: a receive, a sending, a connect, a write, a close or the drawing of a word.
use Rattle.std.specs.Prelude.{List, None, Option, Some, ℕ}
use Rattle.net_world.specs.declared.answers.Got.{Got}
use Rattle.net_world.specs.declared.answers.Sent.{Sent}
use Rattle.net_world.specs.declared.answers.Wrote.{Wrote}
use Rattle.net_world.specs.declared.log.WorldCall.{WorldCall}
use Rattle.net_world.specs.declared.log.WorldCall.TheVariants.{Close, Connect, Now, Receive, Send, Serve, Wait, Word, Write}

-- a datagram that was to go to a server, and how that ended
pub record Sending : Type 0 where
  pub server : ℕ
  pub bytes : List ℕ
  pub outcome : Sent

-- a link that was to be begun to a server, and how that ended
pub record Connecting : Type 0 where
  pub server : ℕ
  pub link : ℕ
  pub outcome : Sent

-- bytes that were to go to a link, and how that ended
pub record Writing : Type 0 where
  pub link : ℕ
  pub bytes : List ℕ
  pub outcome : Wrote

-- what the call received
abbrev pub received_by : WorldCall → Option Got
received_by (Serve server address) = None
received_by (Now reading) = None
received_by (Word word) = None
received_by (Send server bytes outcome) = None
received_by (Connect server link outcome) = None
received_by (Write link bytes outcome) = None
received_by (Receive got) = Some got
received_by (Close link) = None
received_by (Wait until outcome) = None

-- the datagram that the call sent
abbrev pub sent_by : WorldCall → Option Sending
sent_by (Serve server address) = None
sent_by (Now reading) = None
sent_by (Word word) = None
sent_by (Send server bytes outcome) = Some (record { server = server; bytes = bytes; outcome = outcome })
sent_by (Connect server link outcome) = None
sent_by (Write link bytes outcome) = None
sent_by (Receive got) = None
sent_by (Close link) = None
sent_by (Wait until outcome) = None

-- the link that the call began
abbrev pub connected_by : WorldCall → Option Connecting
connected_by (Serve server address) = None
connected_by (Now reading) = None
connected_by (Word word) = None
connected_by (Send server bytes outcome) = None
connected_by (Connect server link outcome) = Some (record { server = server; link = link; outcome = outcome })
connected_by (Write link bytes outcome) = None
connected_by (Receive got) = None
connected_by (Close link) = None
connected_by (Wait until outcome) = None

-- what the call wrote
abbrev pub written_by : WorldCall → Option Writing
written_by (Serve server address) = None
written_by (Now reading) = None
written_by (Word word) = None
written_by (Send server bytes outcome) = None
written_by (Connect server link outcome) = None
written_by (Write link bytes outcome) = Some (record { link = link; bytes = bytes; outcome = outcome })
written_by (Receive got) = None
written_by (Close link) = None
written_by (Wait until outcome) = None

-- the number of the link that the call closed
abbrev pub closed_by : WorldCall → Option ℕ
closed_by (Serve server address) = None
closed_by (Now reading) = None
closed_by (Word word) = None
closed_by (Send server bytes outcome) = None
closed_by (Connect server link outcome) = None
closed_by (Write link bytes outcome) = None
closed_by (Receive got) = None
closed_by (Close link) = Some link
closed_by (Wait until outcome) = None

-- the word that the call drew
abbrev pub drawn_by : WorldCall → Option ℕ
drawn_by (Serve server address) = None
drawn_by (Now reading) = None
drawn_by (Word word) = Some word
drawn_by (Send server bytes outcome) = None
drawn_by (Connect server link outcome) = None
drawn_by (Write link bytes outcome) = None
drawn_by (Receive got) = None
drawn_by (Close link) = None
drawn_by (Wait until outcome) = None
