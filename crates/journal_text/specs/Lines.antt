-- The lines of a run's text, each by its kind.
use Rattle.std.specs.Prelude.{ℕ, List, [], ◌∷◌, ◌++◌, codes, decimal}
use Rattle.dns_message.specs.NamePrinting.{text_of as name_text}
use Rattle.net_addr.specs.Text.{text_of as address_text}
use Rattle.journal_text.specs.declared.line.Line.{Line}
use Rattle.journal_text.specs.declared.line.Line.TheVariants.{Head, Set, Server, Domain, Source, Hosts, Event, End}
use Rattle.journal_text.specs.Words.{Word, joined, bytes_word}
use Rattle.journal_text.specs.Settings.{option_words}
use Rattle.journal_text.specs.Entries.{entry_words}

-- the words of a line
abbrev pub line_words : Line → List Word
-- `journal 1`: what the text is, and the version of its format
line_words Head = codes "journal" ∷ codes "1" ∷ []
-- `option ...`: the options but for the lists
line_words (Set line) = option_words line
-- `server ADDRESS PORT`
line_words (Server server) = codes "server" ∷ address_text server.address ∷ decimal server.port ∷ []
-- `domain NAME`: one of the search list
line_words (Domain name) = codes "domain" ∷ name_text name ∷ []
-- `source ADDRESS`: one of the machine's own
line_words (Source address) = codes "source" ∷ address_text address ∷ []
-- `hosts BYTES`: the bytes of the hosts file
line_words (Hosts bytes) = codes "hosts" ∷ bytes_word bytes ∷ []
-- `SEAT BY ...`: an entry of the journal
line_words (Event entry) = entry_words entry
-- `end`
line_words End = codes "end" ∷ []

-- a line without its end
abbrev pub line_text : Line → List ℕ
line_text line = joined (line_words line)

-- a line and the line feed that ends it
abbrev pub ended_line : List ℕ → List ℕ
ended_line line = line ++ 10 ∷ []
