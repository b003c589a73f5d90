-- Lines out of bytes.
use Rattle.std.specs.Prelude.{ℕ, Bool, true, false, ◌==◌, ◌&&◌, nat_le, List, [], ◌∷◌, Option, Some, None, if◌then◌else◌, bytes_eq, codes, drop}
use Rattle.std.specs.Char.{is_ascii_digit}
use Rattle.std.specs.List.{slice_split}
use Rattle.journal_text.specs.declared.line.Line.{Line}
use Rattle.journal_text.specs.declared.line.OptionLine.{OptionLine}
use Rattle.journal_text.specs.declared.line.Line.TheVariants.{Head, Set, Server, Domain, Source, Hosts, Event, End}
use Rattle.journal_text.specs.Words.{Word}
use Rattle.journal_text.specs.Reads.{Found, ◌>>=◌, begins_with}
use Rattle.journal_text.specs.Atoms.{number_from, truth_from, bytes_from, address_from, name_from, flags_from, lookups_from}
use Rattle.journal_text.specs.EntryReading.{entry_from, server_addr_from}

-- the words of a line: what stands between its blanks
abbrev pub words_of : List ℕ → List Word
words_of line = slice_split (λ byte. byte == 32) line

-- the options but for the lists, where they are within their limits
abbrev pub within_limits : OptionLine → List Word → Found OptionLine
within_limits line words =
    if nat_le 1 line.timeout && nat_le 1 line.tries && nat_le 512 line.edns_size then Some (line, words) else None

unfoldable pub option_from : List Word → Found OptionLine
option_from words = do
  timeout ← number_from 60000 words
  tries ← number_from 10 timeout.1
  ndots ← number_from 15 tries.1
  max ← number_from 3600000 ndots.1
  flags ← flags_from max.1
  rotate ← truth_from flags.1
  lookups ← lookups_from rotate.1
  size ← number_from 65535 lookups.1
  within_limits (record {
    timeout = timeout.0;
    tries = tries.0;
    ndots = ndots.0;
    max_timeout = max.0;
    flags = flags.0;
    rotate = rotate.0;
    lookups = lookups.0;
    edns_size = size.0;
  }) size.1

unfoldable pub set_from : List Word → Found Line
set_from words = do
  line ← option_from words
  Some (Set line.0, line.1)

unfoldable pub head_from : List Word → Found Line
head_from words = if begins_with (codes "1") words then Some (Head, drop 1 words) else None

unfoldable pub server_from : List Word → Found Line
server_from words = do
  server ← server_addr_from words
  Some (Server server.0, server.1)

unfoldable pub domain_from : List Word → Found Line
domain_from words = do
  name ← name_from words
  Some (Domain name.0, name.1)

unfoldable pub source_from : List Word → Found Line
source_from words = do
  address ← address_from words
  Some (Source address.0, address.1)

unfoldable pub hosts_from : List Word → Found Line
hosts_from words = do
  bytes ← bytes_from words
  Some (Hosts bytes.0, bytes.1)

unfoldable pub event_from : List Word → Found Line
event_from words = do
  entry ← entry_from words
  Some (Event entry.0, entry.1)

-- a line by its first word, if that is one of the key words
unfoldable pub keyed_from : Word → List Word → Found Line
keyed_from kind words =
    if bytes_eq kind (codes "journal") then head_from words
    else (if bytes_eq kind (codes "option") then set_from words
    else (if bytes_eq kind (codes "server") then server_from words
    else (if bytes_eq kind (codes "domain") then domain_from words
    else (if bytes_eq kind (codes "source") then source_from words
    else (if bytes_eq kind (codes "hosts") then hosts_from words
    else (if bytes_eq kind (codes "end") then Some (End, words)
    else None))))))

-- the bytes begin with a digit
abbrev pub begins_with_digit : List ℕ → Bool
begins_with_digit [] = false
begins_with_digit (byte ∷ bytes) = is_ascii_digit byte

-- the next word begins with a digit
abbrev pub next_is_number : List Word → Bool
next_is_number [] = false
next_is_number (word ∷ words) = begins_with_digit word

-- a line by its key word
abbrev pub keyed_line : List Word → Found Line
keyed_line [] = None
keyed_line (kind ∷ words) = keyed_from kind words

-- a line out of its words: an entry begins with a number, any other line with its key word
unfoldable pub line_from : List Word → Found Line
line_from words = if next_is_number words then event_from words else keyed_line words

-- all of the words
abbrev pub whole : {A : Type 0} → Found A → Option A
whole None = None
whole (Some (item, [])) = Some item
whole (Some (item, word ∷ words)) = None

-- the line that the bytes are
abbrev pub line_of : List ℕ → Option Line
line_of bytes = whole (line_from (words_of bytes))
