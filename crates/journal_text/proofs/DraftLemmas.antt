-- Which lines a draft was read from: they are those of its run, as far as they go.
use Rattle.std.proofs.Common.{◌≡◌, ℕ, zero, suc, ◌+◌, ◌<◌, ◌≤◌, Bool, true, false, cond, ltb, List, [], ◌∷◌, ◌++◌, length, map, Option, Some, None, refl, sym, ap, subst, ◌∙◌, append_assoc, arith}
use Rattle.std.specs.List.{AllByRecursion}
use Rattle.std.proofs.lemmas.Bool.{lt-ltb, ltb-true}
use Rattle.std.proofs.lemmas.List.{append-nil, map-append, length-append}
use Rattle.hex.specs.Hex.{IsBytes}
use Rattle.net_addr.specs.Addr.{IsAddr}
use Rattle.net_addr.specs.declared.addr.Addr.{Addr}
use Rattle.net_addr.specs.declared.addr.Addr.TheVariants.{V4, V6}
use Rattle.net_addr.specs.declared.addr.ServerAddr.{ServerAddr}
use Rattle.chan_types.specs.declared.journal.Entry.{Entry}
use Rattle.resolv_options.specs.Values.{AreWithinLimits}
use Rattle.journal_text.specs.declared.book.Book.{Book}
use Rattle.journal_text.specs.declared.draft.Draft.{Draft}
use Rattle.journal_text.specs.declared.draft.Section.{Section}
use Rattle.journal_text.specs.declared.draft.Section.TheVariants as at
use Rattle.journal_text.specs.declared.line.OptionLine.{OptionLine}
use Rattle.journal_text.specs.declared.line.Line.{Line}
use Rattle.journal_text.specs.declared.line.Line.TheVariants.{Head, Set, Server, Domain, Source, Hosts, Event, End}
use Rattle.journal_text.specs.Reads.{◌>>=◌}
use Rattle.journal_text.specs.Settings.{line_of_options}
use Rattle.journal_text.specs.BookText.{lines_of_book}
use Rattle.journal_text.specs.Fits.{FitsServer, FitsName, FitsEntry, FitsOptionLine, FitsLine, IsBook}
use Rattle.journal_text.specs.Drafts.{plain_line, blank, section_behind, has_room, with_line, moved, added, drafted, is_ended, HasLimits, book_of}

some_is : {A : Type 0} (a b : A) → Some a ≡ Some b → a ≡ b
some_is a b is = cc

pub push_all : {A : Type 0} (P : A → Type 0) (xs : List A) (x : A) → AllByRecursion P xs → P x → AllByRecursion P (xs ++ x ∷ [])
push_all P [] x all one = (one, tt)
push_all P (y ∷ xs) x all one = (all.0, push_all P xs x all.1 one)

-- ---- lines one after the other

pub drafted-append : (draft : Draft) (lines more : List Line) → drafted draft (lines ++ more) ≡ (drafted draft lines >>= λ next. drafted next more)
drafted-append draft [] more = refl
drafted-append draft (line ∷ lines) more = behind (added draft line) (λ n. drafted-append n lines more) where
  behind : (next : Option Draft) → ((n : Draft) → drafted n (lines ++ more) ≡ (drafted n lines >>= λ m. drafted m more))
      → (next >>= λ n. drafted n (lines ++ more)) ≡ ((next >>= λ n. drafted n lines) >>= λ n. drafted n more)
  behind None again = refl
  behind (Some next) again = again next

pub chained : (draft next : Draft) (lines more : List Line) → drafted draft lines ≡ Some next → drafted draft (lines ++ more) ≡ drafted next more
chained draft next lines more is = drafted-append draft lines more ∙ rw is refl

-- ---- what a draft of good lines holds

-- each item is in its range, and there are not too many
pub record IsSound (draft : Draft) : Type 0 where
  pub numbers : FitsOptionLine draft.line
  pub few_servers : length draft.servers ≤ 8
  pub few_domains : length draft.domains ≤ 8
  pub few_sources : length draft.sources ≤ 8
  pub servers : AllByRecursion FitsServer draft.servers
  pub domains : AllByRecursion FitsName draft.domains
  pub sources : AllByRecursion IsAddr draft.sources
  pub hosts_bytes : IsBytes draft.hosts
  pub entries : AllByRecursion FitsEntry draft.entries

plain_fits : FitsOptionLine plain_line
plain_fits = record {
  some_wait = omega arith;
  short_wait = omega arith;
  some_try = omega arith;
  few_tries = omega arith;
  few_dots = omega arith;
  short_waits = omega arith;
  plain_reply_fits = omega arith;
  size_is_one = omega arith;
}

pub blank_sound : IsSound blank
blank_sound = record {
  numbers = plain_fits;
  few_servers = omega arith;
  few_domains = omega arith;
  few_sources = omega arith;
  servers = tt;
  domains = tt;
  sources = tt;
  hosts_bytes = λ i. omega arith;
  entries = tt;
}

-- the section is no matter
moved_sound : (draft : Draft) (section : Section) → IsSound draft → IsSound (moved draft section)
moved_sound draft section s = record {
  numbers = s.numbers;
  few_servers = s.few_servers;
  few_domains = s.few_domains;
  few_sources = s.few_sources;
  servers = s.servers;
  domains = s.domains;
  sources = s.sources;
  hosts_bytes = s.hosts_bytes;
  entries = s.entries;
}

with_sound : (draft : Draft) (line : Line) → IsSound draft → FitsLine line → has_room draft line ≡ true → IsSound (with_line draft line)
with_sound draft Head s fits room = s
with_sound draft (Set line) s fits room = record {
  numbers = fits;
  few_servers = s.few_servers;
  few_domains = s.few_domains;
  few_sources = s.few_sources;
  servers = s.servers;
  domains = s.domains;
  sources = s.sources;
  hosts_bytes = s.hosts_bytes;
  entries = s.entries;
}
with_sound draft (Server server) s fits room = record {
  numbers = s.numbers;
  few_servers = omega (arith, length-append draft.servers (server ∷ []), ltb-true _ _ room);
  few_domains = s.few_domains;
  few_sources = s.few_sources;
  servers = push_all FitsServer draft.servers server s.servers fits;
  domains = s.domains;
  sources = s.sources;
  hosts_bytes = s.hosts_bytes;
  entries = s.entries;
}
with_sound draft (Domain name) s fits room = record {
  numbers = s.numbers;
  few_servers = s.few_servers;
  few_domains = omega (arith, length-append draft.domains (name ∷ []), ltb-true _ _ room);
  few_sources = s.few_sources;
  servers = s.servers;
  domains = push_all FitsName draft.domains name s.domains fits;
  sources = s.sources;
  hosts_bytes = s.hosts_bytes;
  entries = s.entries;
}
with_sound draft (Source address) s fits room = record {
  numbers = s.numbers;
  few_servers = s.few_servers;
  few_domains = s.few_domains;
  few_sources = omega (arith, length-append draft.sources (address ∷ []), ltb-true _ _ room);
  servers = s.servers;
  domains = s.domains;
  sources = push_all IsAddr draft.sources address s.sources fits;
  hosts_bytes = s.hosts_bytes;
  entries = s.entries;
}
with_sound draft (Hosts bytes) s fits room = record {
  numbers = s.numbers;
  few_servers = s.few_servers;
  few_domains = s.few_domains;
  few_sources = s.few_sources;
  servers = s.servers;
  domains = s.domains;
  sources = s.sources;
  hosts_bytes = fits;
  entries = s.entries;
}
with_sound draft (Event entry) s fits room = record {
  numbers = s.numbers;
  few_servers = s.few_servers;
  few_domains = s.few_domains;
  few_sources = s.few_sources;
  servers = s.servers;
  domains = s.domains;
  sources = s.sources;
  hosts_bytes = s.hosts_bytes;
  entries = push_all FitsEntry draft.entries entry s.entries fits;
}
with_sound draft End s fits room = s

-- ---- which lines a draft was read from

-- the lines up to the servers, the domains, the sources and the entries
abbrev pub till_servers : Draft → List Line
till_servers draft = Head ∷ Set draft.line ∷ map Server draft.servers

abbrev pub till_domains : Draft → List Line
till_domains draft = till_servers draft ++ map Domain draft.domains

abbrev pub till_sources : Draft → List Line
till_sources draft = till_domains draft ++ map Source draft.sources

abbrev pub till_entries : Draft → List Line
till_entries draft = till_sources draft ++ Hosts draft.hosts ∷ map Event draft.entries

-- the lines, by the section
abbrev pub Said : Section → Draft → List Line → Type 0
Said at.Nothing draft lines = (lines ≡ []) × (draft.servers ≡ []) × (draft.domains ≡ []) × (draft.sources ≡ []) × (draft.entries ≡ [])
Said at.Headed draft lines = (lines ≡ Head ∷ []) × (draft.servers ≡ []) × (draft.domains ≡ []) × (draft.sources ≡ []) × (draft.entries ≡ [])
Said at.Optioned draft lines = (lines ≡ Head ∷ Set draft.line ∷ []) × (draft.servers ≡ []) × (draft.domains ≡ []) × (draft.sources ≡ []) × (draft.entries ≡ [])
Said at.Servers draft lines = (lines ≡ till_servers draft) × (1 ≤ length draft.servers) × (draft.domains ≡ []) × (draft.sources ≡ []) × (draft.entries ≡ [])
Said at.Domains draft lines = (lines ≡ till_domains draft) × (1 ≤ length draft.servers) × (draft.sources ≡ []) × (draft.entries ≡ [])
Said at.Sources draft lines = (lines ≡ till_sources draft) × (1 ≤ length draft.servers) × (draft.entries ≡ [])
Said at.Entries draft lines = (lines ≡ till_entries draft) × (1 ≤ length draft.servers)
Said at.Ended draft lines = (lines ≡ till_entries draft ++ End ∷ []) × (1 ≤ length draft.servers)

some_more : {A : Type 0} (xs : List A) (x : A) → 1 ≤ length (xs ++ x ∷ [])
some_more xs x = omega (arith, length-append xs (x ∷ []))

-- one line more, at each section where it may stand
said_more : (section : Section) (line : Line) (draft next : Draft) (lines : List Line) → (section_behind section line >>= λ s. Some (moved (with_line draft line) s)) ≡ Some next
    → Said section draft lines → Said next.section next (lines ++ line ∷ [])
said_more at.Nothing Head draft next lines is said =
    subst (λ n. Said n.section n (lines ++ Head ∷ [])) (some_is _ _ is) (rw said.0 refl, said.1, said.2, said.3, said.4)
said_more at.Headed (Set line) draft next lines is said =
    subst (λ n. Said n.section n (lines ++ Set line ∷ [])) (some_is _ _ is) (rw said.0 refl, said.1, said.2, said.3, said.4)
said_more at.Optioned (Server server) draft next lines is said =
    subst (λ n. Said n.section n (lines ++ Server server ∷ [])) (some_is _ _ is) (rw (said.0, said.1) refl, some_more draft.servers server, said.2, said.3, said.4)
said_more at.Servers (Server server) draft next lines is said =
    subst (λ n. Said n.section n (lines ++ Server server ∷ [])) (some_is _ _ is) (rw (said.0, map-append) refl, some_more draft.servers server, said.2, said.3, said.4)
said_more at.Servers (Domain name) draft next lines is said =
    subst (λ n. Said n.section n (lines ++ Domain name ∷ [])) (some_is _ _ is) (rw (said.0, said.2) refl, said.1, said.3, said.4)
said_more at.Servers (Source address) draft next lines is said =
    subst (λ n. Said n.section n (lines ++ Source address ∷ [])) (some_is _ _ is) (rw (said.0, said.2, said.3, append-nil (map Server draft.servers)) refl, said.1, said.4)
said_more at.Servers (Hosts bytes) draft next lines is said =
    subst (λ n. Said n.section n (lines ++ Hosts bytes ∷ [])) (some_is _ _ is)
    (rw (said.0, said.2, said.3, said.4, append-nil (map Server draft.servers), append-nil (map Server draft.servers)) refl, said.1)
said_more at.Domains (Domain name) draft next lines is said =
    subst (λ n. Said n.section n (lines ++ Domain name ∷ [])) (some_is _ _ is)
    (rw (said.0, map-append) (ap (λ ls. Head ∷ Set draft.line ∷ ls) (append_assoc (map Server draft.servers) (map Domain draft.domains) (Domain name ∷ []))), said.1, said.2, said.3)
said_more at.Domains (Source address) draft next lines is said =
    subst (λ n. Said n.section n (lines ++ Source address ∷ [])) (some_is _ _ is) (rw (said.0, said.2) refl, said.1, said.3)
said_more at.Domains (Hosts bytes) draft next lines is said =
    subst (λ n. Said n.section n (lines ++ Hosts bytes ∷ [])) (some_is _ _ is)
    (rw (said.0, said.2, said.3, append-nil (map Server draft.servers ++ map Domain draft.domains)) refl, said.1)
said_more at.Sources (Source address) draft next lines is said =
    subst (λ n. Said n.section n (lines ++ Source address ∷ [])) (some_is _ _ is)
    (rw (said.0, map-append) (ap (λ ls. Head ∷ Set draft.line ∷ ls) (append_assoc (map Server draft.servers ++ map Domain draft.domains) (map Source draft.sources) (Source address ∷ []))), said.1, said.2)
said_more at.Sources (Hosts bytes) draft next lines is said =
    subst (λ n. Said n.section n (lines ++ Hosts bytes ∷ [])) (some_is _ _ is) (rw (said.0, said.2) refl, said.1)
said_more at.Entries (Event entry) draft next lines is said =
    subst (λ n. Said n.section n (lines ++ Event entry ∷ [])) (some_is _ _ is) (
      rw (said.0, map-append) (ap (λ ls. Head ∷ Set draft.line ∷ ls)
          (append_assoc ((map Server draft.servers ++ map Domain draft.domains) ++ map Source draft.sources) (Hosts draft.hosts ∷ map Event draft.entries) (Event entry ∷ []))),
      said.1,
    )
said_more at.Entries End draft next lines is said =
    subst (λ n. Said n.section n (lines ++ End ∷ [])) (some_is _ _ is) (rw said.0 refl, said.1)
said_more section line draft next lines is said = absurd cc

-- a draft of good lines
pub record IsRead (draft : Draft) (lines : List Line) : Type 0 where
  pub sound : IsSound draft
  pub said : Said draft.section draft lines

-- one line more
pub read_more : (draft next : Draft) (line : Line) (lines : List Line) → FitsLine line → added draft line ≡ Some next → IsRead draft lines → IsRead next (lines ++ line ∷ [])
read_more draft next line lines fits is read = tested (has_room draft line) refl is where
  tested : (room : Bool) → has_room draft line ≡ room → cond room (section_behind draft.section line >>= λ s. Some (moved (with_line draft line) s)) None ≡ Some next → IsRead next (lines ++ line ∷ [])
  tested false room none = absurd cc
  tested true room some = record {
    sound = behind (section_behind draft.section line) some;
    said = said_more draft.section line draft next lines some read.said;
  } where
    behind : (section : Option Section) → (section >>= λ s. Some (moved (with_line draft line) s)) ≡ Some next → IsSound next
    behind None none = absurd cc
    behind (Some section) one = subst IsSound (some_is (moved (with_line draft line) section) next one) (moved_sound (with_line draft line) section (with_sound draft line read.sound fits room))

pub blank_read : IsRead blank []
blank_read = record { sound = blank_sound; said = (refl, refl, refl, refl, refl) }

-- many lines more
pub read_on : (draft next : Draft) (lines more : List Line) → AllByRecursion FitsLine more → drafted draft more ≡ Some next → IsRead draft lines → IsRead next (lines ++ more)
read_on draft next lines [] fits is read =
    let same : draft ≡ next = some_is draft next is in
    subst (λ d. IsRead d (lines ++ [])) same (rw (append-nil lines) read)
read_on draft next lines (line ∷ more) fits is read = behind (added draft line) refl is (λ first others so_far. read_on first next (lines ++ line ∷ []) more fits.1 others so_far) where
  behind : (first : Option Draft) → added draft line ≡ first → (first >>= λ n. drafted n more) ≡ Some next
      → ((n : Draft) → drafted n more ≡ Some next → IsRead n (lines ++ line ∷ []) → IsRead next ((lines ++ line ∷ []) ++ more)) → IsRead next (lines ++ line ∷ more)
  behind None none nothing again = absurd cc
  behind (Some first) one others again =
      subst (λ (ls : List Line). IsRead next ls) (append_assoc lines (line ∷ []) more) (again first others (read_more draft first line lines fits.0 one read))

-- ---- the end

-- the lines of a run
lines_grouped : (draft : Draft) → till_entries draft ++ End ∷ [] ≡ lines_of_book (book_of draft)
lines_grouped draft =
    ap (λ (ls : List Line). Head ∷ Set draft.line ∷ (ls ++ End ∷ []))
    (sym (append_assoc ((map Server draft.servers ++ map Domain draft.domains) ++ map Source draft.sources) (Hosts draft.hosts ∷ []) (map Event draft.entries)))

-- a run that is read to its end
pub record IsWhole (draft : Draft) (lines : List Line) : Type 0 where
  pub lines_are : lines ≡ lines_of_book (book_of draft)
  pub is_book : IsBook (book_of draft)
  pub limits : HasLimits draft

whole_of : (draft : Draft) (lines : List Line) → IsSound draft → (lines ≡ till_entries draft ++ End ∷ []) × (1 ≤ length draft.servers) → IsWhole draft lines
whole_of draft lines s said = record {
  lines_are = said.0 ∙ lines_grouped draft;
  is_book = record {
    limits = record {
      some_server = said.1;
      few_servers = s.few_servers;
      few_domains = s.few_domains;
      few_sources = s.few_sources;
      few_dots = s.numbers.few_dots;
      some_try = s.numbers.some_try;
      few_tries = s.numbers.few_tries;
      some_wait = s.numbers.some_wait;
      short_wait = s.numbers.short_wait;
      short_waits = s.numbers.short_waits;
      plain_reply_fits = s.numbers.plain_reply_fits;
      size_is_one = s.numbers.size_is_one;
    };
    servers = s.servers;
    domains = s.domains;
    sources = s.sources;
    hosts_bytes = s.hosts_bytes;
    entries = s.entries;
  };
  limits = record { some_server = said.1; few_servers = s.few_servers; few_domains = s.few_domains; few_sources = s.few_sources; numbers = s.numbers };
}

pub whole_read : (draft : Draft) (lines : List Line) → draft.section ≡ at.Ended → IsRead draft lines → IsWhole draft lines
whole_read draft lines ended read = whole_of draft lines read.sound (subst (λ section. Said section draft lines) ended read.said)

-- ---- what is missing

-- a server that stands for none
abbrev pub local_server : ServerAddr
local_server = record { address = V4 0; port = 53 }

-- lines that end a text
abbrev pub ending : Section → List Line
ending at.Nothing = Head ∷ Set plain_line ∷ Server local_server ∷ Hosts [] ∷ End ∷ []
ending at.Headed = Set plain_line ∷ Server local_server ∷ Hosts [] ∷ End ∷ []
ending at.Optioned = Server local_server ∷ Hosts [] ∷ End ∷ []
ending at.Servers = Hosts [] ∷ End ∷ []
ending at.Domains = Hosts [] ∷ End ∷ []
ending at.Sources = Hosts [] ∷ End ∷ []
ending at.Entries = End ∷ []
ending at.Ended = []

local_fits : FitsServer local_server
local_fits = (omega arith, omega arith)

ending_fits : (section : Section) → AllByRecursion FitsLine (ending section)
ending_fits at.Nothing = (tt, (plain_fits, (local_fits, ((λ i. omega arith), (tt, tt)))))
ending_fits at.Headed = (plain_fits, (local_fits, ((λ i. omega arith), (tt, tt))))
ending_fits at.Optioned = (local_fits, ((λ i. omega arith), (tt, tt)))
ending_fits at.Servers = ((λ i. omega arith), (tt, tt))
ending_fits at.Domains = ((λ i. omega arith), (tt, tt))
ending_fits at.Sources = ((λ i. omega arith), (tt, tt))
ending_fits at.Entries = (tt, tt)
ending_fits at.Ended = tt

-- a text that may end
record MayEnd (draft : Draft) (more : List Line) : Type 0 where
  last : Draft
  is : drafted draft more ≡ Some last
  ended : last.section ≡ at.Ended

-- what the draft is then
closed : Section → Draft → Draft
closed at.Nothing draft = record draft { section = at.Ended; line = plain_line; servers = draft.servers ++ local_server ∷ []; hosts = [] }
closed at.Headed draft = record draft { section = at.Ended; line = plain_line; servers = draft.servers ++ local_server ∷ []; hosts = [] }
closed at.Optioned draft = record draft { section = at.Ended; servers = draft.servers ++ local_server ∷ []; hosts = [] }
closed at.Servers draft = record draft { section = at.Ended; hosts = [] }
closed at.Domains draft = record draft { section = at.Ended; hosts = [] }
closed at.Sources draft = record draft { section = at.Ended; hosts = [] }
closed at.Entries draft = moved draft at.Ended
closed at.Ended draft = moved draft at.Ended

closing : (draft : Draft) (section : Section) (lines : List Line) → Said section draft lines → drafted (moved draft section) (ending section) ≡ Some (closed section draft)
unfolding closed
closing draft at.Nothing lines said = rw said.1 refl
closing draft at.Headed lines said = rw said.1 refl
closing draft at.Optioned lines said = rw said.1 refl
closing draft at.Servers lines said = refl
closing draft at.Domains lines said = refl
closing draft at.Sources lines said = refl
closing draft at.Entries lines said = refl
closing draft at.Ended lines said = refl

closed_ended : (section : Section) (draft : Draft) → (closed section draft).section ≡ at.Ended
unfolding closed
closed_ended at.Nothing draft = refl
closed_ended at.Headed draft = refl
closed_ended at.Optioned draft = refl
closed_ended at.Servers draft = refl
closed_ended at.Domains draft = refl
closed_ended at.Sources draft = refl
closed_ended at.Entries draft = refl
closed_ended at.Ended draft = refl

may_end : (draft : Draft) (section : Section) (lines : List Line) → Said section draft lines → MayEnd (moved draft section) (ending section)
may_end draft section lines said = record { last = closed section draft; is = closing draft section lines said; ended = closed_ended section draft }

-- some run's lines begin so
pub record BeginsRun (lines : List Line) : Type 0 where
  pub book : Book
  pub is_book : IsBook book
  pub more : List Line
  pub lines_are : lines ++ more ≡ lines_of_book book

pub begins_run : (draft : Draft) (lines : List Line) → IsRead draft lines → BeginsRun lines
begins_run draft lines read =
    let end = may_end draft draft.section lines read.said in
    let last = read_on draft end.last lines (ending draft.section) (ending_fits draft.section) end.is read in
    let whole = whole_read end.last (lines ++ ending draft.section) end.ended last in
    record { book = book_of end.last; is_book = whole.is_book; more = ending draft.section; lines_are = whole.lines_are }
