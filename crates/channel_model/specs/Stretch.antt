-- A stretch of a journal agrees with a stretch of a log, from one standing to the next.
-- A whole journal and a whole log agree where they are such a stretch from the beginning.
use Rattle.std.specs.Prelude.{List, [], ℕ, ◌++◌, ◌≡◌}
use Rattle.chan_types.specs.declared.journal.Entry.{Entry}
use Rattle.net_world.specs.declared.log.WorldCall.{WorldCall}
use Rattle.channel_model.specs.Journal.{Past, followed_by}
use Rattle.channel_model.specs.Links.{Link, held_after, told}
use Rattle.channel_model.specs.Setting.{Setting}
use Rattle.channel_model.specs.Traffic.{arrived, asked, connects, datagrams, faulted, faults, messages, noted, noticed, notices, opened, queued, written}

-- what journal and log have come to: what happened, the held links, and for each link the bytes that are still to be written
pub record Standing : Type 0 where
  pub past : Past
  pub held : List Link
  pub unwritten : ℕ → List ℕ

-- where nothing has happened
abbrev pub beginning : Standing
beginning = record { past = []; held = []; unwritten = λ link. [] }

-- the standing behind further entries that no call tells of
abbrev pub behind : Standing → List Entry → Standing
behind standing entries = record standing { past = followed_by standing.past entries }

-- from the one standing to the other, what the seat's entries note is what the calls tell
pub record Agrees (setting : Setting) (seat : ℕ) (old : Standing) (entries : List Entry) (calls : List WorldCall) (new : Standing) : Type 0 where
  pub past_is : new.past ≡ followed_by old.past entries
  pub held_are : new.held ≡ held_after old.held calls
  pub arrivals : noted seat arrived old.past entries ≡ told messages old.held calls
  pub sends : noted seat (asked setting) old.past entries ≡ told datagrams old.held calls
  pub links : noted seat opened old.past entries ≡ told connects old.held calls
  -- what was to be written to a link, and then what is queued, is what was written, and then what is still to be written
  pub writes : (link : ℕ) → old.unwritten link ++ noted seat (queued setting link) old.past entries ≡ told (written link) old.held calls ++ new.unwritten link
  pub faults_are : noted seat faulted old.past entries ≡ told faults old.held calls
  -- messages, datagrams, links and faults in the order in which they came
  pub in_order : noted seat (noticed setting) old.past entries ≡ told notices old.held calls

-- a stretch that a first step makes up to a standing, and a second one from there
pub record Joined (first second : Standing → List Entry → List WorldCall → Standing → Type 0) (old : Standing) (entries : List Entry) (calls : List WorldCall) (new : Standing) : Type 0 where
  pub middle : Standing
  pub entries_first : List Entry
  pub entries_then : List Entry
  pub calls_first : List WorldCall
  pub calls_then : List WorldCall
  pub entries_are : entries ≡ entries_first ++ entries_then
  pub calls_are : calls ≡ calls_first ++ calls_then
  pub one : first old entries_first calls_first middle
  pub two : second middle entries_then calls_then new

-- nothing was done
pub record IsIdle (old : Standing) (entries : List Entry) (calls : List WorldCall) (new : Standing) : Type 0 where
  pub no_entry : entries ≡ []
  pub no_call : calls ≡ []
  pub same : new ≡ old
