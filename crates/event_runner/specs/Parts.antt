-- What the parts of a turn do, call by call, and what they have done as a whole.
use Rattle.std.specs.List.{list_all, list_any}
use Rattle.std.specs.Prelude.{Bool, Err, IsFalse, IsTrue, List, Ok, Option, Result, [], false, length, nat_le, not, take, true, ℕ, ◌++◌, ◌+◌, ◌==◌, ◌||◌, ◌∷◌, ◌≡◌, ◌≤◌, ◌⊎◌, ⊤}
use mathlib.Core.List.{IsPrefix}
use Rattle.chan_types.specs.declared.journal.Entry.{Entry}
use Rattle.net_world.specs.declared.answers.Got.TheVariants.{Nothing}
use Rattle.net_world.specs.declared.log.WorldCall.{WorldCall}
use Rattle.channel_model.specs.CutShort.{HasOneMore, NearlyAgrees}
use Rattle.channel_model.specs.KeptLinks.{Row}
use Rattle.channel_model.specs.Known.{Known}
use Rattle.channel_model.specs.Links.{Link, told}
use Rattle.item_list.specs.declared.no_memory.NoMemory.{NoMemory}
use Rattle.channel_model.specs.Calls.{Writing}
use Rattle.net_world.specs.declared.answers.Wrote.TheVariants.{Failed as NotWritten}
use Rattle.net_world.specs.declared.log.WorldCall.TheVariants.{Close, Write}
use Rattle.event_runner.specs.Goes.{Goes, Stops}
use Rattle.event_runner.specs.State.{Gets, State}
use Rattle.channel_model.specs.Setting.{Setting}
use Rattle.channel_model.specs.Stretch.{Agrees, Standing}
use Rattle.channel_model.specs.Traffic.{noted}
use Rattle.channel_model.specs.Turn.{AreDrawn, DrawsForStarts, HasMade, NoneStarts, Numbered, Part, WasCut, are_of, are_served_first, closes_held, closes_made, closing, draws, expired_in, is_busy, is_flushed, is_looked_at, is_nothing, is_sent_to, is_start_to, last_took_nothing, losses, numbered, receiving, received_in, receives, served_by, serves, started_in, starting, words_of_look, writes_astray, writing, wrotes}

-- how much these entries and calls received, let expire and started
pub record Counts (seat : ℕ) (entries : List Entry) (calls : List WorldCall) (received expired started : ℕ) : Type 0 where
  pub received_are : received_in calls ≡ received
  pub expired_are : expired_in seat entries ≡ expired
  pub started_are : started_in seat entries ≡ started

-- the words that a start is given: the second only where the case of letters is drawn
abbrev pub words_of : Bool → ℕ → ℕ → List ℕ
words_of true word bits = word ∷ bits ∷ []
words_of false word bits = word ∷ []

-- the later servers are told; or the last of them isn't, and then it had no Start before, and nothing was sent to it
abbrev pub NearlyServes : Setting → ℕ → Standing → List Entry → List WorldCall → Type 0
NearlyServes setting seat old entries calls =
    (noted seat (served_by setting) old.past entries ≡ told serves old.held calls)
    ⊎ ((more : HasOneMore (noted seat (served_by setting) old.past entries) (told serves old.held calls))
    × IsTrue (list_all (λ call. not (is_sent_to more.last.key call)) calls)
    × IsFalse (list_any (is_start_to more.last.key) old.past))

module _ (reading : ℕ) where
  -- a part was made whole, and did so much
  pub record MakesPart (part : Part) (received expired started : ℕ) (setting : Setting) (seat : ℕ) (old : Standing) (entries : List Entry) (calls : List WorldCall) (new : Standing) : Type 0 where
    pub made : HasMade setting seat reading part old entries calls new
    pub counts : Counts seat entries calls received expired started

  -- a part was cut short
  abbrev pub CutPart : Part → Setting → ℕ → Standing → List Entry → List WorldCall → Type 0
  CutPart part setting seat old entries calls = WasCut setting seat reading part old entries calls

  -- within a part, journal and log agree, all is of the part, and so much was done
  pub record Within (part : Part) (received expired started : ℕ) (setting : Setting) (seat : ℕ) (old : Standing) (entries : List Entry) (calls : List WorldCall) (new : Standing) : Type 0 where
    pub agrees : Agrees setting seat old entries calls new
    pub alone : IsTrue (are_of part seat reading entries calls)
    pub counts : Counts seat entries calls received expired started

  -- within a part, journal and log agree but for what want of memory cut off at its end, and all is of the part
  pub record NearlyWithin (part : Part) (setting : Setting) (seat : ℕ) (old : Standing) (entries : List Entry) (calls : List WorldCall) : Type 0 where
    pub nearly : NearlyAgrees setting seat old entries calls
    pub alone : IsTrue (are_of part seat reading entries calls)

  -- so many items are received, and the held links that end or fail are closed
  pub record Hears (count : ℕ) (setting : Setting) (seat : ℕ) (old : Standing) (entries : List Entry) (calls : List WorldCall) (new : Standing) : Type 0 where
    pub within : Within receiving count 0 0 setting seat old entries calls new
    pub items : IsFalse (list_any is_nothing (told receives old.held calls))
    pub count_is : length (told receives old.held calls) ≡ count
    pub closed : told closes_made old.held calls ≡ told losses old.held calls

  -- nothing is received
  pub record HearsNothing (setting : Setting) (seat : ℕ) (old : Standing) (entries : List Entry) (calls : List WorldCall) (new : Standing) : Type 0 where
    pub within : Within receiving 0 0 0 setting seat old entries calls new
    pub nothing : told receives old.held calls ≡ Nothing ∷ []
    pub closed : told closes_made old.held calls ≡ told losses old.held calls

  -- one item is received, or nothing
  abbrev pub HearsOne : Bool → Setting → ℕ → Standing → List Entry → List WorldCall → Standing → Type 0
  HearsOne true = Hears 1
  HearsOne false = HearsNothing

  -- the receiving of one item is cut short
  pub record CutHearing (setting : Setting) (seat : ℕ) (old : Standing) (entries : List Entry) (calls : List WorldCall) : Type 0 where
    pub within : NearlyWithin receiving setting seat old entries calls
    pub items : IsFalse (list_any is_nothing (told receives old.held calls))
    pub few : length (told receives old.held calls) ≤ 1
    pub closed : IsPrefix (told closes_made old.held calls) (told losses old.held calls)

  -- so many attempts are begun: each has its identifier and its bits by its own words, and the later servers are told before the first attempt on them
  pub record Begins (count : ℕ) (setting : Setting) (seat : ℕ) (old : Standing) (entries : List Entry) (calls : List WorldCall) (new : Standing) : Type 0 where
    pub within : Within starting 0 0 count setting seat old entries calls new
    pub drawn : (left : ℕ → Bool) (starts : List Numbered) (words : List ℕ) → AreDrawn setting left starts words →
        AreDrawn setting left (noted seat numbered old.past entries ++ starts) (told draws old.held calls ++ words)
    pub served : noted seat (served_by setting) old.past entries ≡ told serves old.held calls
    pub served_first : IsTrue (are_served_first calls)
    -- the servers that are told had no Start before, and what is sent goes to servers that have one by then
    pub told_new : (server : ℕ) → IsTrue (list_any (is_start_to server) old.past) → IsTrue (list_all (λ key. not (key.key == server)) (told serves old.held calls))
    pub sent : (server : ℕ) → IsFalse (list_any (is_start_to server) new.past) → IsTrue (list_all (λ call. not (is_sent_to server call)) calls)

  -- the query of one attempt is asked, which was begun with these words: its server is told first, where it has to be
  pub record Asks (word bits : ℕ) (setting : Setting) (seat : ℕ) (old : Standing) (entries : List Entry) (calls : List WorldCall) (new : Standing) : Type 0 where
    pub within : Within starting 0 0 1 setting seat old entries calls new
    pub drawn : (left : ℕ → Bool) (starts : List Numbered) (words : List ℕ) → AreDrawn setting left starts words →
        AreDrawn setting left (noted seat numbered old.past entries ++ starts) (words_of setting.options.flags.mix word bits ++ words)
    pub no_word : told draws old.held calls ≡ []
    pub served : noted seat (served_by setting) old.past entries ≡ told serves old.held calls
    pub served_first : IsTrue (are_served_first calls)
    pub sent : (server : ℕ) → IsFalse (list_any (is_start_to server) new.past) → IsTrue (list_all (λ call. not (is_sent_to server call)) calls)
    pub told_new : (server : ℕ) → IsTrue (list_any (is_start_to server) old.past) → IsTrue (list_all (λ key. not (key.key == server)) (told serves old.held calls))

  -- the asking of one attempt's query is cut short
  pub record CutAsking (word bits : ℕ) (setting : Setting) (seat : ℕ) (old : Standing) (entries : List Entry) (calls : List WorldCall) : Type 0 where
    pub within : NearlyWithin starting setting seat old entries calls
    pub few : started_in seat entries ≤ 1
    pub drawn : AreDrawn setting (λ left. nat_le left (words_of_look setting)) (noted seat numbered old.past entries)
        (words_of setting.options.flags.mix word bits)
    pub no_word : told draws old.held calls ≡ []
    pub served : NearlyServes setting seat old entries calls
    pub served_first : IsTrue (are_served_first calls)
    pub told_new : (server : ℕ) → IsTrue (list_any (is_start_to server) old.past) → IsTrue (list_all (λ key. not (key.key == server)) (told serves old.held calls))

  -- no attempt is begun, since none can start: the words are drawn of the look that finds this
  pub record BeginsNone (setting : Setting) (seat : ℕ) (old : Standing) (entries : List Entry) (calls : List WorldCall) (new : Standing) : Type 0 where
    pub begins : Within starting 0 0 0 setting seat old entries calls new
    pub none : NoneStarts setting new.past
    pub no_start : noted seat numbered old.past entries ≡ []
    pub drawn : IsTrue (length (told draws old.held calls) == words_of_look setting)
    pub served : noted seat (served_by setting) old.past entries ≡ told serves old.held calls
    pub served_none : told serves old.held calls ≡ []
    pub served_first : IsTrue (are_served_first calls)

  -- an attempt is begun, or none can start
  abbrev pub BeginsOne : Bool → Setting → ℕ → Standing → List Entry → List WorldCall → Standing → Type 0
  BeginsOne true = Begins 1
  BeginsOne false = BeginsNone

  -- the beginning of one attempt is cut short
  pub record CutBeginning (setting : Setting) (seat : ℕ) (old : Standing) (entries : List Entry) (calls : List WorldCall) : Type 0 where
    pub within : NearlyWithin starting setting seat old entries calls
    pub few : started_in seat entries ≤ 1
    pub drawn : DrawsForStarts setting seat reading (λ left. nat_le left (words_of_look setting)) old entries calls
    pub served : NearlyServes setting seat old entries calls
    pub served_first : IsTrue (are_served_first calls)
    -- the servers that are told had no Start before
    pub told_new : (server : ℕ) → IsTrue (list_any (is_start_to server) old.past) → IsTrue (list_all (λ key. not (key.key == server)) (told serves old.held calls))

-- the calls by which a link is closed, unless it stays
abbrev pub close_unless : Bool → ℕ → List WorldCall
close_unless true number = []
close_unless false number = Close number ∷ []

-- the links that are left, where one between others stays or goes
abbrev pub left_between : Bool → List Link → Link → List Link → List Link
left_between true before link after = before ++ link ∷ after
left_between false before link after = before ++ after

-- the numbers of these links differ
abbrev pub LinksApart : List Link → Type 0
LinksApart [] = ⊤
LinksApart (link ∷ links) = IsTrue (list_all (λ other. not (link.number == other.number)) links) × LinksApart links

-- the link is among those that were closed
abbrev pub is_closed : List ℕ → Link → Bool
is_closed closes link = list_any (λ number. number == link.number) closes

-- a link is flushed: nothing is left to be written to it, or the last of these writes took no byte, though it had one
abbrev pub is_done : List ℕ → List Writing → Bool
is_done unwritten answers = (length unwritten == 0) || last_took_nothing answers

module _ (reading : ℕ) where
  -- bytes are written, none goes astray, and the held links that fail are closed
  pub record Writes (setting : Setting) (seat : ℕ) (old : Standing) (entries : List Entry) (calls : List WorldCall) (new : Standing) : Type 0 where
    pub within : Within reading writing 0 0 0 setting seat old entries calls new
    pub to_held : told writes_astray old.held calls ≡ []
    pub closed : told closes_made old.held calls ≡ told losses old.held calls

  -- bytes are written to one link alone, and no link fails
  pub record WritesTo (number : ℕ) (setting : Setting) (seat : ℕ) (old : Standing) (entries : List Entry) (calls : List WorldCall) (new : Standing) : Type 0 where
    pub writes : Writes setting seat old entries calls new
    pub held : new.held ≡ old.held
    pub others : (link : ℕ) → IsFalse (number == link) → (told (wrotes link) old.held calls ≡ []) × (new.unwritten link ≡ old.unwritten link)

  -- and then it is flushed
  pub record Flushes (number : ℕ) (setting : Setting) (seat : ℕ) (old : Standing) (entries : List Entry) (calls : List WorldCall) (new : Standing) : Type 0 where
    pub writes : WritesTo number setting seat old entries calls new
    pub flushed : IsTrue (is_done (new.unwritten number) (told (wrotes number) old.held calls))

  -- the link behind so many is flushed, and stays; or it failed, and is gone
  pub record WritesAt (index : ℕ) (stays : Bool) (setting : Setting) (seat : ℕ) (old : Standing) (entries : List Entry) (calls : List WorldCall) (new : Standing) : Type 0 where
    pub writes : Writes setting seat old entries calls new
    pub number : ℕ
    pub front : take index new.held ≡ take index old.held
    pub apart : IsTrue (list_all (λ link. not (number == link.number)) (take index old.held))
    pub others : (link : ℕ) → IsFalse (number == link) → (told (wrotes link) old.held calls ≡ []) × (new.unwritten link ≡ old.unwritten link)
    pub here : IsTrue stays → (link : Link) × (take (index + 1) new.held ≡ take index old.held ++ link ∷ []) × (link.number ≡ number)
        × IsTrue (is_done (new.unwritten number) (told (wrotes number) old.held calls))

  -- so many links are flushed
  pub record WritesUpTo (count : ℕ) (setting : Setting) (seat : ℕ) (old : Standing) (entries : List Entry) (calls : List WorldCall) (new : Standing) : Type 0 where
    pub writes : Writes setting seat old entries calls new
    pub done : IsTrue (list_all (is_flushed new.unwritten old.held calls) (take count new.held))

  -- the writing is cut short
  pub record CutWriting (setting : Setting) (seat : ℕ) (old : Standing) (entries : List Entry) (calls : List WorldCall) : Type 0 where
    pub within : NearlyWithin reading writing setting seat old entries calls
    pub to_held : told writes_astray old.held calls ≡ []
    pub closed : IsPrefix (told closes_made old.held calls) (told losses old.held calls)

  -- the state of a run where the runner holds this link among others
  abbrev pub with_row : Known → List Row → List Row → List ℕ → Bool → Row → Option (List WorldCall) → State
  with_row known before after keys mix row log = record { known = known; rows = before ++ row ∷ after; told = keys; mix = mix; log = log }

  -- a link is flushed, or a write to it failed behind others, or want of memory came
  abbrev pub FlushEnds : Result Bool NoMemory → (Row → Option (List WorldCall) → State) → Row → Row → Option (List WorldCall) → Option (List WorldCall) → Type 0
  FlushEnds (Ok true) state old new log_old log_new = Goes (Flushes old.number) (state old log_old) (state new log_new)
  FlushEnds (Ok false) state old new log_old log_new =
      (middle : Option (List WorldCall)) × Goes (WritesTo old.number) (state old log_old) (state new middle) × Gets (Write new.number new.unwritten NotWritten) middle log_new
  FlushEnds (Err fault) state old new log_old log_new = Stops CutWriting (state old log_old) (state new log_new)

  -- the link behind so many is looked at: it stays exactly where it is busy there, and else it is closed
  pub record LooksAt (index : ℕ) (stays : Bool) (setting : Setting) (seat : ℕ) (old : Standing) (entries : List Entry) (calls : List WorldCall) (new : Standing) : Type 0 where
    pub within : Within reading closing 0 0 0 setting seat old entries calls new
    pub before : List Link
    pub link : Link
    pub after : List Link
    pub old_is : old.held ≡ before ++ link ∷ after
    pub index_is : length before ≡ index
    pub busy : is_busy setting link new.past ≡ stays
    pub calls_are : calls ≡ close_unless stays link.number
    pub new_is : new.held ≡ left_between stays before link after
    pub closed : told closes_made old.held calls ≡ told closes_held old.held calls

  -- a look is cut short before the close
  pub record CutLook (setting : Setting) (seat : ℕ) (old : Standing) (entries : List Entry) (calls : List WorldCall) : Type 0 where
    pub within : NearlyWithin reading closing setting seat old entries calls
    pub no_call : calls ≡ []

  -- the links in front were looked at, and so many of them stay
  pub record ClosesUpTo (count : ℕ) (setting : Setting) (seat : ℕ) (old : Standing) (entries : List Entry) (calls : List WorldCall) (new : Standing) : Type 0 where
    pub within : Within reading closing 0 0 0 setting seat old entries calls new
    pub done : List Link
    pub kept : List Link
    pub rest : List Link
    pub old_is : old.held ≡ done ++ rest
    pub new_is : new.held ≡ kept ++ rest
    pub count_is : length kept ≡ count
    pub apart : LinksApart old.held
    pub looked : IsTrue (list_all (is_looked_at setting old.past entries (told closes_made old.held calls)) done)
    pub unclosed : IsTrue (list_all (λ link. not (is_closed (told closes_made old.held calls) link)) rest)
    pub closed : told closes_made old.held calls ≡ told closes_held old.held calls
