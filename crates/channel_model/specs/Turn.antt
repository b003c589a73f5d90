-- The shape of a turn: it reads the clock once, and then it receives, expires, starts, writes and closes.
-- The journal is cut where the turn looked and found a part done. Entries of other seats may stand between its own.
use Rattle.std.specs.List.{list_all, list_any}
use Rattle.std.specs.Option.{option_map_or}
use Rattle.std.specs.Prelude.{Bool, IsFalse, IsTrue, List, None, Option, Some, [], count_by, false, filter_map, if◌then◌else◌, find, is_some, length, map, nat_le, not, option_to_list, true, ℕ, ◌&&◌, ◌++◌, ◌<◌, ◌==◌, ◌^◌, ◌||◌, ◌∷◌, ◌≡◌, ◌≤◌, ◌⊎◌, IfSome}
use mathlib.Core.List.{IsPrefix}
use Rattle.chan_types.specs.declared.journal.Entry.{Entry}
use Rattle.chan_types.specs.declared.server_key.ServerKey.{ServerKey}
use Rattle.chan_types.specs.declared.journal.What.{What}
use Rattle.chan_types.specs.declared.journal.What.TheVariants.{Accept, Arrive, Cancel, Destroy, Expire, Fault, Start, Take, Servers}
use Rattle.net_world.specs.declared.answers.Got.{Got}
use Rattle.net_world.specs.declared.answers.Got.TheVariants.{Datagram, Ended, Failed as LinkFailed, Nothing, Piece}
use Rattle.net_world.specs.declared.answers.Wrote.{Wrote}
use Rattle.net_world.specs.declared.answers.Wrote.TheVariants.{Count, Failed as NotWritten}
use Rattle.net_world.specs.declared.log.WorldCall.{WorldCall}
use Rattle.net_world.specs.declared.log.WorldCall.TheVariants.{Close, Connect, Now, Receive, Send, Serve, Wait, Word, Write}
use Rattle.channel_model.specs.Calls.{Writing, closed_by, connected_by, drawn_by, received_by, sent_by, written_by}
use Rattle.channel_model.specs.Completion.{waiting}
use Rattle.channel_model.specs.CutShort.{HasOneMore, NearlyAgrees}
use Rattle.channel_model.specs.Flight.{begun_by, closes, in_flight, went_over}
use Rattle.channel_model.specs.Identifiers.{AllUsed, IsFirstFree}
use Rattle.channel_model.specs.Journal.{Past, own_entries}
use Rattle.channel_model.specs.Lawful.{first_due}
use Rattle.channel_model.specs.Links.{Link, held_link, told}
use Rattle.channel_model.specs.Servers.{has_key, opening_servers, servers_at}
use Rattle.channel_model.specs.Setting.{Setting}
use Rattle.channel_model.specs.Stretch.{Agrees, IsIdle, Joined, Standing}
use Rattle.channel_model.specs.Traffic.{noted}

-- the parts of a turn
pub data Part : Type 0 where
  receiving : Part
  expiring : Part
  starting : Part
  writing : Part
  closing : Part

-- the parts in their order
abbrev pub all_parts : List Part
all_parts = receiving ∷ expiring ∷ starting ∷ writing ∷ closing ∷ []

-- the parts behind which a part comes
abbrev pub parts_before : Part → List Part
parts_before receiving = []
parts_before expiring = receiving ∷ []
parts_before starting = receiving ∷ expiring ∷ []
parts_before writing = receiving ∷ expiring ∷ starting ∷ []
parts_before closing = receiving ∷ expiring ∷ starting ∷ writing ∷ []

-- two parts are one
abbrev pub same_part : Part → Part → Bool
same_part a b = length (parts_before a) == length (parts_before b)

-- the parts in which a turn makes such an entry
abbrev pub parts_of_entry : What → List Part
parts_of_entry (Accept number spec script) = []
parts_of_entry Cancel = []
parts_of_entry Destroy = []
parts_of_entry (Take number) = []
parts_of_entry (Start number leg server link id mix moment) = starting ∷ []
parts_of_entry (Arrive server link bytes) = receiving ∷ []
parts_of_entry (Expire number leg moment) = expiring ∷ []
parts_of_entry (Fault server link moment) = receiving ∷ starting ∷ writing ∷ []
parts_of_entry (Servers list) = []

-- the parts in which a turn makes such a call; it reads the clock before all of them
abbrev pub parts_of_call : WorldCall → List Part
parts_of_call (Serve server address) = starting ∷ []
parts_of_call (Now reading) = []
parts_of_call (Word word) = starting ∷ []
parts_of_call (Send server bytes outcome) = starting ∷ []
parts_of_call (Connect server link outcome) = starting ∷ []
parts_of_call (Write link bytes outcome) = writing ∷ []
parts_of_call (Receive got) = receiving ∷ []
parts_of_call (Close link) = receiving ∷ writing ∷ closing ∷ []
parts_of_call (Wait until outcome) = []

-- the part is one of these
abbrev pub is_among : Part → List Part → Bool
is_among part parts = list_any (same_part part) parts

-- an entry's moment, where it has one
abbrev pub moment_of : What → Option ℕ
moment_of (Accept number spec script) = None
moment_of Cancel = None
moment_of Destroy = None
moment_of (Take number) = None
moment_of (Start number leg server link id mix moment) = Some moment
moment_of (Arrive server link bytes) = None
moment_of (Expire number leg moment) = Some moment
moment_of (Fault server link moment) = Some moment
moment_of (Servers list) = None

-- the entry's moment, where it has one, is this reading of the clock
abbrev pub is_at : ℕ → What → Bool
is_at reading what = option_map_or (λ moment. moment == reading) (moment_of what) true

-- the seat's entries and the calls are of this part of a turn with this reading
abbrev pub are_of : Part → ℕ → ℕ → List Entry → List WorldCall → Bool
are_of part seat reading entries calls =
    list_all (λ entry. is_among part (parts_of_entry entry.what) && is_at reading entry.what) (own_entries seat entries)
    && list_all (λ call. is_among part (parts_of_call call)) calls

-- how many receives a turn makes at most
abbrev pub most_receives : ℕ
most_receives = 64

-- how many Expires and how many Starts a turn makes at most; and how many identifiers there are, since they have 16 bits (RFC 1035, section 4.1.1)
abbrev pub most_entries : ℕ
most_entries = 2 ^ 16

-- what a call received
abbrev pub receives : List Link → WorldCall → List Got
receives held call = option_to_list (received_by call)

-- nothing was received
abbrev pub is_nothing : Got → Bool
is_nothing (Datagram server bytes) = false
is_nothing (Piece number bytes) = false
is_nothing (Ended number) = false
is_nothing Nothing = true
is_nothing (LinkFailed server number) = false

-- how many of the calls received something
abbrev pub received_in : List WorldCall → ℕ
received_in calls = count_by (λ got. not (is_nothing got)) (filter_map received_by calls)

-- they end with the first Nothing
pub record EndsWithNothing (gots : List Got) : Type 0 where
  pub items : List Got
  pub gots_are : gots ≡ items ++ Nothing ∷ []
  pub no_earlier : IsFalse (list_any is_nothing items)

-- they end with the first Nothing, at most so many, or they are so many without one
abbrev pub IsWholeReceive : ℕ → List Got → Type 0
IsWholeReceive most gots = (EndsWithNothing gots × (length gots ≤ most)) ⊎ (IsFalse (list_any is_nothing gots) × (length gots ≡ most))

-- they end with the first Nothing or have none, and are at most 64
pub record IsPartialReceive (gots : List Got) : Type 0 where
  pub ends : EndsWithNothing gots ⊎ IsFalse (list_any is_nothing gots)
  pub few : length gots ≤ most_receives

-- the number of this link, where it is held
abbrev pub if_held : List Link → ℕ → List ℕ
if_held held number = map (λ link. link.number) (option_to_list (held_link number held))

-- the held link that ended or failed with what was received
abbrev pub lost_receiving : List Link → Got → List ℕ
lost_receiving held (Datagram server bytes) = []
lost_receiving held (Piece number bytes) = []
lost_receiving held (Ended number) = if_held held number
lost_receiving held Nothing = []
lost_receiving held (LinkFailed server number) = if_held held number

-- the held link that failed with a write
abbrev pub lost_writing : List Link → ℕ → Wrote → List ℕ
lost_writing held number (Count count) = []
lost_writing held number NotWritten = if_held held number

-- the held link that ended or failed with a call
abbrev pub losses : List Link → WorldCall → List ℕ
losses held (Serve server address) = []
losses held (Now reading) = []
losses held (Word word) = []
losses held (Send server bytes outcome) = []
losses held (Connect server link outcome) = []
losses held (Write link bytes outcome) = lost_writing held link outcome
losses held (Receive got) = lost_receiving held got
losses held (Close link) = []
losses held (Wait until outcome) = []

-- the link that a call closed
abbrev pub closes_made : List Link → WorldCall → List ℕ
closes_made held call = option_to_list (closed_by call)

-- the held link that a call closed
abbrev pub closes_held : List Link → WorldCall → List ℕ
closes_held held call = option_map_or (if_held held) (closed_by call) []

-- the word that a call drew
abbrev pub draws : List Link → WorldCall → List ℕ
draws held call = option_to_list (drawn_by call)

-- the identifier of an attempt that begins, the bits for the case of its letters if it has some, and what happened before it
pub record Numbered : Type 0 where
  pub id : ℕ
  pub mix : Option ℕ
  pub past : Past

-- the identifier and the bits of the attempt that an entry begins, with what happened before it
abbrev pub numbered : Past → What → List Numbered
numbered past what = option_map_or (λ a. record { id = a.id; mix = a.mix; past = past } ∷ []) (begun_by what) []

-- the entry begins an attempt on this server
abbrev pub is_start_to : ℕ → What → Bool
is_start_to server what = option_map_or (λ a. a.server == server) (begun_by what) false

-- the server that a call tells, and its address
abbrev pub serves : List Link → WorldCall → List ServerKey
serves held (Serve server address) = record { key = server; address = address } ∷ []
serves held (Now reading) = []
serves held (Word word) = []
serves held (Send server bytes outcome) = []
serves held (Connect server link outcome) = []
serves held (Write link bytes outcome) = []
serves held (Receive got) = []
serves held (Close link) = []
serves held (Wait until outcome) = []

-- the call sends a datagram or begins a link to the server
abbrev pub is_sent_to : ℕ → WorldCall → Bool
is_sent_to server call =
    option_map_or (λ sending. sending.server == server) (sent_by call) false || option_map_or (λ connecting. connecting.server == server) (connected_by call) false

-- no call sends or connects to a server that a later one of them tells
abbrev pub are_served_first : List WorldCall → Bool
are_served_first [] = true
are_served_first (call ∷ calls) = list_all (λ server. not (is_sent_to server.key call)) (told serves [] calls) && are_served_first calls

-- the writes to links that aren't held
abbrev pub writes_astray : List Link → WorldCall → List ℕ
writes_astray held call = option_map_or (λ writing. if is_some (held_link writing.link held) then [] else writing.link ∷ []) (written_by call) []

-- how many Starts are among the seat's entries
abbrev pub started_in : ℕ → List Entry → ℕ
started_in seat entries = length (filter_map (λ entry. begun_by entry.what) (own_entries seat entries))

-- the entry is an Expire
abbrev pub is_expire : What → Bool
is_expire (Accept number spec script) = false
is_expire Cancel = false
is_expire Destroy = false
is_expire (Take number) = false
is_expire (Start number leg server link id mix moment) = false
is_expire (Arrive server link bytes) = false
is_expire (Expire number leg moment) = true
is_expire (Fault server link moment) = false
is_expire (Servers list) = false

-- how many Expires are among the seat's entries
abbrev pub expired_in : ℕ → List Entry → ℕ
expired_in seat entries = count_by (λ entry. is_expire entry.what) (own_entries seat entries)

-- the writes to a link: what was to go to it, and what they answered
abbrev pub wrotes : ℕ → List Link → WorldCall → List Writing
wrotes link held call = option_map_or (λ writing. if writing.link == link then writing ∷ [] else []) (written_by call) []

-- no byte was taken
abbrev pub took_none : Wrote → Bool
took_none (Count count) = count == 0
took_none NotWritten = false

-- a byte was to go to the link, and none was taken
abbrev pub took_nothing : Writing → Bool
took_nothing made = not (length made.bytes == 0) && took_none made.outcome

-- the last of these writes took no byte, though it had one
abbrev pub last_took_nothing : List Writing → Bool
last_took_nothing [] = false
last_took_nothing (wrote ∷ []) = took_nothing wrote
last_took_nothing (wrote ∷ next ∷ rest) = last_took_nothing (next ∷ rest)

-- nothing is left to be written to the link, or the last of these writes to it took no byte, though it had one
abbrev pub is_flushed : (ℕ → List ℕ) → List Link → List WorldCall → Link → Bool
is_flushed unwritten held calls link = (length (unwritten link.number) == 0) || last_took_nothing (told (wrotes link.number) held calls)

-- the test holds at a position from this past on, up to the end of these entries
abbrev pub somewhere : (Past → Bool) → Past → List Entry → Bool
somewhere test past [] = test past
somewhere test past (entry ∷ entries) = test past || somewhere test (entry.what ∷ past) entries

module _ (setting : Setting) where
  -- no attempt in flight is due at the reading
  abbrev pub NoneDue : ℕ → Past → Type 0
  NoneDue reading past = IfSome (first_due setting past) (λ due. reading < due.at)

  -- no leg waits, or all identifiers are in flight
  abbrev pub NoneStarts : Past → Type 0
  NoneStarts past = (waiting setting past ≡ []) ⊎ AllUsed setting past

  -- where the case of letters is drawn, the next of these words is that of this attempt if it has one, and the rest goes on behind it; else the rest goes on with all of them
  abbrev pub HasBits : Bool → Option ℕ → (List ℕ → Type 0) → List ℕ → Type 0
  HasBits false mix rest words = rest words
  HasBits true mix rest [] = ⊥
  HasBits true mix rest (bits ∷ words) = IfSome mix (λ drawn. drawn ≡ bits) × rest words

  -- each attempt has the first free identifier from its own word upwards, and its own bits
  -- the count of the words that are left behind those of the last attempt passes the test
  abbrev pub AreDrawn : (ℕ → Bool) → List Numbered → List ℕ → Type 0
  AreDrawn may_be_left [] words = IsTrue (may_be_left (length words))
  AreDrawn may_be_left (start ∷ starts) [] = ⊥
  AreDrawn may_be_left (start ∷ starts) (word ∷ words) =
      IsFirstFree setting word start.id start.past × HasBits setting.options.flags.mix start.mix (AreDrawn may_be_left starts) words

  -- how many words a look for something to start draws: one for an identifier, and one more where the case of letters is drawn
  abbrev pub words_of_look : ℕ
  words_of_look = if setting.options.flags.mix then 2 else 1

  -- a server that wasn't there at the opening is told with its address where the first attempt on it begins
  abbrev pub served_by : Past → What → List ServerKey
  served_by past what =
      option_map_or (λ a. if has_key a.server (opening_servers setting) || list_any (is_start_to a.server) past then [] else
      option_to_list (find (λ server. server.key == a.server) (servers_at setting past))) (begun_by what) []

  -- an attempt is in flight over the link
  abbrev pub is_busy : Link → Past → Bool
  is_busy link past = list_any (λ a. went_over a link.server link.number) (in_flight setting past)

  -- the link is closed where the turn looked and it wasn't busy, and it stays where the turn looked and it was
  abbrev pub is_looked_at : Past → List Entry → List ℕ → Link → Bool
  is_looked_at past entries closes link =
      if list_any (λ number. number == link.number) closes then somewhere (λ here. not (is_busy link here)) past entries else somewhere (is_busy link) past entries

  module _ (seat reading : ℕ) where
    -- it receives up to the first Nothing or 64 times, and closes the held links that end or fail
    pub record HasReceived (old : Standing) (entries : List Entry) (calls : List WorldCall) (new : Standing) : Type 0 where
      pub agrees : Agrees setting seat old entries calls new
      pub alone : IsTrue (are_of receiving seat reading entries calls)
      pub all : IsWholeReceive most_receives (told receives old.held calls)
      pub closed : told closes_made old.held calls ≡ told losses old.held calls

    -- it expires until it has seen that nothing is due, or 65,536 times
    pub record HasExpired (old : Standing) (entries : List Entry) (calls : List WorldCall) (new : Standing) : Type 0 where
      pub agrees : Agrees setting seat old entries calls new
      pub alone : IsTrue (are_of expiring seat reading entries calls)
      pub all : NoneDue reading new.past ⊎ (expired_in seat entries ≡ most_entries)
      pub few : expired_in seat entries ≤ most_entries

    -- the words that the calls draw are those of the Starts, and behind the last one's as many as pass the test
    abbrev pub DrawsForStarts : (ℕ → Bool) → Standing → List Entry → List WorldCall → Type 0
    DrawsForStarts may_be_left old entries calls = AreDrawn may_be_left (noted seat numbered old.past entries) (told draws old.held calls)

    -- the later servers are told; or the last of them isn't, and then nothing was sent to it
    abbrev pub MayLackServer : Standing → List Entry → List WorldCall → Type 0
    MayLackServer old entries calls =
        (noted seat served_by old.past entries ≡ told serves old.held calls)
        ⊎ ((more : HasOneMore (noted seat served_by old.past entries) (told serves old.held calls))
        × IsTrue (list_all (λ call. not (is_sent_to more.last.key call)) calls))

    -- it starts until it has seen that none can start, or 65,536 times, each time with words of its own
    pub record HasStarted (old : Standing) (entries : List Entry) (calls : List WorldCall) (new : Standing) : Type 0 where
      pub agrees : Agrees setting seat old entries calls new
      pub alone : IsTrue (are_of starting seat reading entries calls)
      -- the look that found that none can start had its words too; no other word is drawn
      pub all : (NoneStarts new.past × DrawsForStarts (λ left. left == words_of_look) old entries calls)
          ⊎ ((started_in seat entries ≡ most_entries) × DrawsForStarts (λ left. left == 0) old entries calls)
      pub few : started_in seat entries ≤ most_entries
      -- each later server is told once, before the first query goes to it
      pub served : noted seat served_by old.past entries ≡ told serves old.held calls
      pub served_first : IsTrue (are_served_first calls)

    -- it writes what is framed, until nothing is left or the World takes no byte of what it is given, and closes the held links that fail
    pub record HasWritten (old : Standing) (entries : List Entry) (calls : List WorldCall) (new : Standing) : Type 0 where
      pub agrees : Agrees setting seat old entries calls new
      pub alone : IsTrue (are_of writing seat reading entries calls)
      pub all : IsTrue (list_all (is_flushed new.unwritten old.held calls) new.held)
      pub to_held : told writes_astray old.held calls ≡ []
      pub closed : told closes_made old.held calls ≡ told losses old.held calls

    -- it closes the held links that aren't busy, and no other
    pub record HasClosed (old : Standing) (entries : List Entry) (calls : List WorldCall) (new : Standing) : Type 0 where
      pub agrees : Agrees setting seat old entries calls new
      pub alone : IsTrue (are_of closing seat reading entries calls)
      pub all : IsTrue (list_all (is_looked_at old.past entries (told closes_made old.held calls)) old.held)
      pub closed : told closes_made old.held calls ≡ told closes_held old.held calls

    -- a part of a turn was made whole, by these entries and calls
    abbrev pub HasMade : Part → Standing → List Entry → List WorldCall → Standing → Type 0
    HasMade receiving old entries calls new = HasReceived old entries calls new
    HasMade expiring old entries calls new = HasExpired old entries calls new
    HasMade starting old entries calls new = HasStarted old entries calls new
    HasMade writing old entries calls new = HasWritten old entries calls new
    HasMade closing old entries calls new = HasClosed old entries calls new

    -- these parts of a turn were made whole, one behind the other
    abbrev pub HaveMade : List Part → Standing → List Entry → List WorldCall → Standing → Type 0
    HaveMade [] = IsIdle
    HaveMade (part ∷ parts) = Joined (HasMade part) (HaveMade parts)

    -- a turn with this reading leads from the one standing to the other: it reads the clock, and makes all parts
    pub record IsTurn (old : Standing) (entries : List Entry) (calls : List WorldCall) (new : Standing) : Type 0 where
      pub made : List WorldCall
      pub calls_are : calls ≡ Now reading ∷ made
      pub parts : HaveMade all_parts old entries made new

    -- what a part of a turn that was cut short may have done beside that
    abbrev pub CutAsRule : Part → Standing → List Entry → List WorldCall → Type 0
    -- it received nothing at most once and last, at most 64 times in all, and closed the first of the links that ended or failed
    CutAsRule receiving old entries calls =
        (IsPartialReceive (told receives old.held calls)) × IsPrefix (told closes_made old.held calls) (told losses old.held calls)
    CutAsRule expiring old entries calls = expired_in seat entries ≤ most_entries
    -- its words are those of the Starts and at most those of one look more, behind which no Start was made
    -- its later servers are told, but perhaps for that of the last Start, whose query then isn't sent
    CutAsRule starting old entries calls =
        (started_in seat entries ≤ most_entries) × DrawsForStarts (λ left. nat_le left words_of_look) old entries calls
        × MayLackServer old entries calls × IsTrue (are_served_first calls)
    CutAsRule writing old entries calls =
        (told writes_astray old.held calls ≡ []) × IsPrefix (told closes_made old.held calls) (told losses old.held calls)
    -- it closed held links that weren't busy where it looked, and no other
    CutAsRule closing old entries calls =
        (told closes_made old.held calls ≡ told closes_held old.held calls)
        × IsTrue (list_all (λ link. not (list_any (λ number. number == link.number) (told closes_made old.held calls)) || somewhere (λ here. not (is_busy link here)) old.past entries) old.held)

    -- a part of a turn was begun, and cut short
    pub record WasCut (part : Part) (old : Standing) (entries : List Entry) (calls : List WorldCall) : Type 0 where
      pub nearly : NearlyAgrees setting seat old entries calls
      pub alone : IsTrue (are_of part seat reading entries calls)
      pub by_rule : CutAsRule part old entries calls

    -- a turn with this reading began at the standing and was cut short: in one of its parts, with those before it made whole
    pub record IsCutTurn (old : Standing) (entries : List Entry) (calls : List WorldCall) : Type 0 where
      pub made : List WorldCall
      pub part : Part
      pub calls_are : calls ≡ Now reading ∷ made
      pub parts : Joined (HaveMade (parts_before part)) (λ middle rest more new. WasCut part middle rest more) old entries made old
