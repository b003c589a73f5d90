-- A journal agrees with a log of the network: what a seat's entries note of messages, queries, links and faults is what the calls tell.
use Rattle.std.specs.List.{list_any}
use Rattle.std.specs.Option.{option_map_or}
use Rattle.std.specs.Prelude.{Bool, List, None, Option, Some, [], false, if◌then◌else◌, map, not, take, ℕ, ◌&&◌, ◌++◌, ◌==◌, ◌||◌, ◌∷◌, ◌≡◌}
use mathlib.Core.List.{IsPrefix}
use Rattle.chan_types.specs.declared.journal.Entry.{Entry}
use Rattle.chan_types.specs.declared.journal.What.{What}
use Rattle.chan_types.specs.declared.journal.What.TheVariants.{Accept, Arrive, Cancel, Destroy, Expire, Fault, Start, Take, Servers}
use Rattle.dns_message.specs.Spelling.{message_bytes}
use Rattle.net_world.specs.declared.answers.Got.{Got}
use Rattle.net_world.specs.declared.answers.Got.TheVariants.{Datagram, Ended, Failed as LinkFailed, Nothing, Piece}
use Rattle.net_world.specs.declared.answers.Sent.{Sent}
use Rattle.net_world.specs.declared.answers.Sent.TheVariants.{Failed as NotSent, Sent as WasSent}
use Rattle.net_world.specs.declared.answers.Wrote.{Wrote}
use Rattle.net_world.specs.declared.answers.Wrote.TheVariants.{Count, Failed as NotWritten}
use Rattle.net_world.specs.declared.log.WorldCall.{WorldCall}
use Rattle.net_world.specs.declared.log.WorldCall.TheVariants.{Close, Connect, Now, Receive, Send, Serve, Wait, Word, Write}
use Rattle.channel_model.specs.Calls.{connected_by, received_by, sent_by, written_by}
use Rattle.channel_model.specs.Flight.{Attempt, begun_by}
use Rattle.channel_model.specs.Frames.{framed, messages_in}
use Rattle.channel_model.specs.Journal.{Past}
use Rattle.channel_model.specs.Links.{Link, held_link, told}
use Rattle.channel_model.specs.Past.{leg_query}
use Rattle.channel_model.specs.Setting.{Setting}

-- a message and its way: a datagram over link 0, a frame over any other
pub record Parcel : Type 0 where
  pub server : ℕ
  pub link : ℕ
  pub bytes : List ℕ

-- a server and a link to it
pub record Route : Type 0 where
  pub server : ℕ
  pub link : ℕ

-- one thing that the network tells: a message that came, a datagram that was sent, a link that was connected, or a fault
pub data Notice : Type 0 where
  of_message : Parcel → Notice
  of_datagram : Parcel → Notice
  of_link : Route → Notice
  of_fault : Route → Notice

-- all that one call tells, or one entry notes, as one list: a fault stands behind what failed
abbrev pub notices_of : List Parcel → List Parcel → List Route → List Route → List Notice
notices_of came sent connected failed = map of_message came ++ (map of_datagram sent ++ (map of_link connected ++ map of_fault failed))

-- the messages that become whole with these bytes of a link; those of a link that isn't held are passed over
abbrev pub brought : Option Link → List ℕ → List Parcel
brought None bytes = []
brought (Some link) bytes = map (λ message. record { server = link.server; link = link.number; bytes = message }) (messages_in link.unread bytes)

-- the messages that came with what was received
abbrev pub messages_of : List Link → Got → List Parcel
messages_of held (Datagram server bytes) = record { server = server; link = 0; bytes = bytes } ∷ []
messages_of held (Piece number bytes) = brought (held_link number held) bytes
messages_of held (Ended number) = []
messages_of held Nothing = []
messages_of held (LinkFailed server number) = []

-- the messages that a call brings
abbrev pub messages : List Link → WorldCall → List Parcel
messages held call = option_map_or (messages_of held) (received_by call) []

-- the datagram that a call sends
abbrev pub datagrams : List Link → WorldCall → List Parcel
datagrams held call = option_map_or (λ sending. record { server = sending.server; link = 0; bytes = sending.bytes } ∷ []) (sent_by call) []

-- the link that a call connects
abbrev pub connects : List Link → WorldCall → List Route
connects held call = option_map_or (λ connecting. record { server = connecting.server; link = connecting.link } ∷ []) (connected_by call) []

-- the bytes that a write took
abbrev pub counted : List ℕ → Wrote → List ℕ
counted bytes (Count count) = take count bytes
counted bytes NotWritten = []

-- the bytes that a call wrote to this link
abbrev pub written : ℕ → List Link → WorldCall → List ℕ
written link held call = option_map_or (λ writing. if writing.link == link then counted writing.bytes writing.outcome else []) (written_by call) []

-- the fault of a link: where it is held, with the server that it was connected to
abbrev pub broken : Option Link → List Route → List Route
broken None otherwise = otherwise
broken (Some link) otherwise = record { server = link.server; link = link.number } ∷ []

-- the fault that was received: the end of a held link, or a failure
abbrev pub fault_received : List Link → Got → List Route
fault_received held (Datagram server bytes) = []
fault_received held (Piece number bytes) = []
fault_received held (Ended number) = broken (held_link number held) []
fault_received held Nothing = []
fault_received held (LinkFailed server number) = broken (held_link number held) (record { server = server; link = number } ∷ [])

-- the fault of a datagram or of a new link: where it failed
abbrev pub fault_sent : ℕ → ℕ → Sent → List Route
fault_sent server number WasSent = []
fault_sent server number NotSent = record { server = server; link = number } ∷ []

-- the fault of a write: where it failed
abbrev pub fault_written : List Link → ℕ → Wrote → List Route
fault_written held number (Count count) = []
fault_written held number NotWritten = broken (held_link number held) []

-- the fault that a call tells
abbrev pub faults : List Link → WorldCall → List Route
faults held (Serve server address) = []
faults held (Now reading) = []
faults held (Word word) = []
faults held (Send server bytes outcome) = fault_sent server 0 outcome
faults held (Connect server link outcome) = fault_sent server link outcome
faults held (Write link bytes outcome) = fault_written held link outcome
faults held (Receive got) = fault_received held got
faults held (Close link) = []
faults held (Wait until outcome) = []

-- all that a call tells of messages, datagrams, links and faults
abbrev pub notices : List Link → WorldCall → List Notice
notices held call = notices_of (messages held call) (datagrams held call) (connects held call) (faults held call)

-- what a seat's entries note, one after the other, where each is read with what happened before it
abbrev pub noted : {A : Type 0} → ℕ → (Past → What → List A) → Past → List Entry → List A
noted seat notes past [] = []
noted seat notes past (entry ∷ entries) =
    (if entry.seat == seat then notes past entry.what else []) ++ noted seat notes (entry.what ∷ past) entries

-- the message that an entry notes
abbrev pub arrived : Past → What → List Parcel
arrived past (Accept number spec script) = []
arrived past Cancel = []
arrived past Destroy = []
arrived past (Take number) = []
arrived past (Start number leg server link id mix moment) = []
arrived past (Arrive server link bytes) = record { server = server; link = link; bytes = bytes } ∷ []
arrived past (Expire number leg moment) = []
arrived past (Fault server link moment) = []
arrived past (Servers list) = []

-- the fault that an entry notes
abbrev pub faulted : Past → What → List Route
faulted past (Accept number spec script) = []
faulted past Cancel = []
faulted past Destroy = []
faulted past (Take number) = []
faulted past (Start number leg server link id mix moment) = []
faulted past (Arrive server link bytes) = []
faulted past (Expire number leg moment) = []
faulted past (Fault server link moment) = record { server = server; link = link } ∷ []
faulted past (Servers list) = []

-- the entry begins an attempt over this link
abbrev pub is_start_on : ℕ → What → Bool
is_start_on link what = option_map_or (λ a. a.link == link) (begun_by what) false

-- an attempt over a link other than 0 that had none before opens it
abbrev pub opened_by : Past → Attempt → List Route
opened_by past a = if (a.link == 0) || list_any (is_start_on a.link) past then [] else record { server = a.server; link = a.link } ∷ []

-- the link that an entry opens
abbrev pub opened : Past → What → List Route
opened past what = option_map_or (opened_by past) (begun_by what) []

module _ (setting : Setting) where
  -- the bytes of an attempt's query, where this happened before its Start
  abbrev pub query_bytes : Past → Attempt → List ℕ
  query_bytes past a = option_map_or message_bytes (leg_query setting a.leg a.id a.mix past) []

  -- the query of an attempt over link 0
  abbrev pub asked_by : Past → Attempt → List Parcel
  asked_by past a = if a.link == 0 then record { server = a.server; link = 0; bytes = query_bytes past a } ∷ [] else []

  -- the datagram that an entry asks with
  abbrev pub asked : Past → What → List Parcel
  asked past what = option_map_or (asked_by past) (begun_by what) []

  -- all that an entry notes of messages, datagrams, links and faults
  abbrev pub noticed : Past → What → List Notice
  noticed past what = notices_of (arrived past what) (asked past what) (opened past what) (faulted past what)

  -- the framed query of an attempt over this link, which isn't 0
  abbrev pub queued_by : ℕ → Past → Attempt → List ℕ
  queued_by link past a = if not (a.link == 0) && (a.link == link) then framed (query_bytes past a) else []

  -- the bytes that an entry asks with over this link
  abbrev pub queued : ℕ → Past → What → List ℕ
  queued link past what = option_map_or (queued_by link past) (begun_by what) []

  -- what a seat's entries note in the journal is what the log tells
  pub record TrafficAgrees (seat : ℕ) (journal : List Entry) (log : List WorldCall) : Type 0 where
    -- the messages that came, each with the piece that makes it whole
    pub arrivals : noted seat arrived [] journal ≡ told messages [] log
    -- the queries over link 0 are the datagrams
    pub sends : noted seat asked [] journal ≡ told datagrams [] log
    -- each other link is connected once, to its server, in the order of their first Starts
    pub links : noted seat opened [] journal ≡ told connects [] log
    -- what was written to a link are its framed queries, as far as they went
    pub writes : (link : ℕ) → IsPrefix (told (written link) [] log) (noted seat (queued link) [] journal)
    -- the ends of held links, and the failures
    pub faults_are : noted seat faulted [] journal ≡ told faults [] log
    -- messages, datagrams, links and faults in the order in which they came
    pub in_order : noted seat noticed [] journal ≡ told notices [] log
