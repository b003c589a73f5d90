-- How a text is read line by line: which line may stand where, and what the lines so far said.
use Rattle.std.specs.Prelude.{◌≡◌, ℕ, ◌≤◌, Bool, true, false, nat_lt, List, [], ◌∷◌, ◌++◌, length, map, Option, Some, None, if◌then◌else◌}
use Rattle.resolv_options.specs.declared.lookups.Lookups.TheVariants.{FilesDns}
use Rattle.journal_text.specs.declared.book.Book.{Book}
use Rattle.journal_text.specs.declared.draft.Draft.{Draft}
use Rattle.journal_text.specs.declared.draft.Section.{Section}
use Rattle.journal_text.specs.declared.draft.Section.TheVariants as at
use Rattle.journal_text.specs.declared.line.OptionLine.{OptionLine}
use Rattle.journal_text.specs.declared.line.Line.{Line}
use Rattle.journal_text.specs.declared.line.Line.TheVariants.{Head, Set, Server, Domain, Source, Hosts, Event, End}
use Rattle.journal_text.specs.Lines.{line_text}
use Rattle.journal_text.specs.LineReading.{line_of}
use Rattle.journal_text.specs.Fits.{FitsOptionLine, FitsLine}
use Rattle.journal_text.specs.Reads.{◌>>=◌}

-- the options but for the lists, where nothing is set
abbrev pub plain_line : OptionLine
plain_line = record {
  timeout = 2000;
  tries = 3;
  ndots = 1;
  max_timeout = 0;
  flags = record {
    usevc = false;
    primary = false;
    igntc = false;
    norecurse = false;
    nosearch = false;
    nocheckresp = false;
    edns = true;
    mix = false;
  };
  rotate = false;
  lookups = FilesDns;
  edns_size = 1232;
}

-- what no line says
abbrev pub blank : Draft
blank = record {
  section = at.Nothing;
  line = plain_line;
  servers = [];
  domains = [];
  sources = [];
  hosts = [];
  entries = [];
}

-- where a text stands behind this line, if the line may stand there
abbrev pub section_behind : Section → Line → Option Section
section_behind at.Nothing Head = Some at.Headed
section_behind at.Headed (Set line) = Some at.Optioned
section_behind at.Optioned (Server server) = Some at.Servers
section_behind at.Servers (Server server) = Some at.Servers
section_behind at.Servers (Domain name) = Some at.Domains
section_behind at.Servers (Source address) = Some at.Sources
section_behind at.Servers (Hosts bytes) = Some at.Entries
section_behind at.Domains (Domain name) = Some at.Domains
section_behind at.Domains (Source address) = Some at.Sources
section_behind at.Domains (Hosts bytes) = Some at.Entries
section_behind at.Sources (Source address) = Some at.Sources
section_behind at.Sources (Hosts bytes) = Some at.Entries
section_behind at.Entries (Event entry) = Some at.Entries
section_behind at.Entries End = Some at.Ended
section_behind section line = None

-- there is room for the line's item: options have at most eight servers, domains and sources
abbrev pub has_room : Draft → Line → Bool
has_room draft Head = true
has_room draft (Set line) = true
has_room draft (Server server) = nat_lt (length draft.servers) 8
has_room draft (Domain name) = nat_lt (length draft.domains) 8
has_room draft (Source address) = nat_lt (length draft.sources) 8
has_room draft (Hosts bytes) = true
has_room draft (Event entry) = true
has_room draft End = true

-- with what this line says
abbrev pub with_line : Draft → Line → Draft
with_line draft Head = draft
with_line draft (Set line) = record draft { line = line }
with_line draft (Server server) = record draft { servers = draft.servers ++ server ∷ [] }
with_line draft (Domain name) = record draft { domains = draft.domains ++ name ∷ [] }
with_line draft (Source address) = record draft { sources = draft.sources ++ address ∷ [] }
with_line draft (Hosts bytes) = record draft { hosts = bytes }
with_line draft (Event entry) = record draft { entries = draft.entries ++ entry ∷ [] }
with_line draft End = draft

-- the draft stands in this section
abbrev pub moved : Draft → Section → Draft
moved draft section = record draft { section = section }

-- with this line, where it may stand there
abbrev pub added : Draft → Line → Option Draft
added draft line =
    if has_room draft line then (section_behind draft.section line >>= λ section. Some (moved (with_line draft line) section))
    else None

-- with these lines, where each may stand there
abbrev pub drafted : Draft → List Line → Option Draft
drafted draft [] = Some draft
drafted draft (line ∷ lines) = added draft line >>= λ next. drafted next lines

-- the section is that behind the last line
abbrev pub ended_at : Section → Bool
ended_at at.Nothing = false
ended_at at.Headed = false
ended_at at.Optioned = false
ended_at at.Servers = false
ended_at at.Domains = false
ended_at at.Sources = false
ended_at at.Entries = false
ended_at at.Ended = true

-- the text has ended
abbrev pub is_ended : Draft → Bool
is_ended draft = ended_at draft.section

-- the bytes are the text of a line that may stand there, and with it the draft is that one
abbrev pub TakesLine : List ℕ → Draft → Draft → Type 0
TakesLine bytes draft next = (line : Line) × (bytes ≡ line_text line) × FitsLine line × (added draft line ≡ Some next)

-- the bytes are the text of no line that may stand there
abbrev pub TakesNone : List ℕ → Draft → Type 0
TakesNone bytes draft = (line_of bytes >>= λ line. added draft line) ≡ None

-- the lists and numbers are within the limits of options
pub record HasLimits (draft : Draft) : Type 0 where
  pub some_server : 1 ≤ length draft.servers
  pub few_servers : length draft.servers ≤ 8
  pub few_domains : length draft.domains ≤ 8
  pub few_sources : length draft.sources ≤ 8
  pub numbers : FitsOptionLine draft.line

-- the run that was said
abbrev pub book_of : Draft → Book
book_of draft = record {
  options = record {
    servers = draft.servers;
    domains = draft.domains;
    ndots = draft.line.ndots;
    tries = draft.line.tries;
    timeout = draft.line.timeout;
    max_timeout = draft.line.max_timeout;
    flags = draft.line.flags;
    rotate = draft.line.rotate;
    lookups = draft.line.lookups;
    edns_size = draft.line.edns_size;
    sources = draft.sources;
  };
  hosts = draft.hosts;
  journal = draft.entries;
}
