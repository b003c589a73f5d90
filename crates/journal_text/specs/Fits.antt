-- What has a text: the ranges of the types' fields. Every value of the code's types is within them.
use Rattle.std.specs.Prelude.{◌≡◌, ℕ, ◌≤◌, ◌<◌, ◌^◌, List, Option, Some, None, ⊤}
use Rattle.std.specs.List.{AllByRecursion}
use Rattle.hex.specs.Hex.{IsBytes}
use Rattle.dns_message.specs.Name.{IsName}
use Rattle.dns_message.specs.NamePrinting.{AreBytes}
use Rattle.net_addr.specs.Addr.{IsAddr}
use Rattle.net_addr.specs.declared.addr.ServerAddr.{ServerAddr}
use Rattle.resolv_options.specs.Values.{OptionValues, AreWithinLimits}
use Rattle.chan_types.specs.Plans.{Plan, Moves, Deed, stop, step, ask, reverse, cancel, destroy, count, depth}
use Rattle.chan_types.specs.declared.spec.Spec.{Spec}
use Rattle.chan_types.specs.declared.spec.Spec.TheVariants.{Query, Search, Address, Reverse}
use Rattle.chan_types.specs.declared.journal.Entry.{Entry}
use Rattle.chan_types.specs.declared.journal.What.{What}
use Rattle.chan_types.specs.declared.journal.What.TheVariants.{Accept, Cancel, Destroy, Take, Start, Arrive, Expire, Fault, Servers}
use Rattle.chan_types.specs.declared.server_key.ServerKey.{ServerKey}
use Rattle.journal_text.specs.declared.book.Book.{Book}
use Rattle.journal_text.specs.declared.line.OptionLine.{OptionLine}
use Rattle.journal_text.specs.declared.line.Line.{Line}
use Rattle.journal_text.specs.declared.line.Line.TheVariants.{Head, Set, Server, Domain, Source, Hosts, Event, End}

-- numbers of 8, 16, 32 and 64 bits
abbrev pub Fits8 : ℕ → Type 0
Fits8 n = n < 2 ^ 8

abbrev pub Fits16 : ℕ → Type 0
Fits16 n = n < 2 ^ 16

abbrev pub Fits32 : ℕ → Type 0
Fits32 n = n < 2 ^ 32

abbrev pub Fits64 : ℕ → Type 0
Fits64 n = n < 2 ^ 64

-- the name is one, and each number of its labels is a byte
abbrev pub FitsName : List (List ℕ) → Type 0
FitsName name = IsName name × AreBytes name

-- the server's address is one, and its port is
abbrev pub FitsServer : ServerAddr → Type 0
FitsServer server = IsAddr server.address × Fits16 server.port

-- what is asked has bytes, numbers and an address
abbrev pub FitsSpec : Spec → Type 0
FitsSpec (Query name kind class) = IsBytes name × Fits16 kind × Fits16 class
FitsSpec (Search name kind class) = IsBytes name × Fits16 kind × Fits16 class
FitsSpec (Address host family nosort) = IsBytes host
FitsSpec (Reverse address) = IsAddr address

-- what a step does; one that asks nothing has no steps inside
abbrev pub FitsDeed : Deed → Moves → Type 0
FitsDeed (ask spec tag) inside = FitsSpec spec × Fits64 tag
FitsDeed (reverse tag) inside = Fits64 tag
FitsDeed cancel inside = inside ≡ stop
FitsDeed destroy inside = inside ≡ stop

-- each step, those inside too, of which there are at most eight
abbrev pub FitsMoves : Moves → Type 0
FitsMoves stop = ⊤
FitsMoves (step when need deed inside rest) = FitsDeed deed inside × (count inside ≤ 8) × FitsMoves inside × FitsMoves rest

-- a script: at most eight steps, nested at most four deep
pub record FitsPlan (plan : Plan) : Type 0 where
  pub tag_fits : Fits64 plan.tag
  pub few : count plan.moves ≤ 8
  pub flat : depth plan.moves ≤ 4
  pub steps : FitsMoves plan.moves

-- the bits of a mix
abbrev pub FitsMix : Option ℕ → Type 0
FitsMix None = ⊤
FitsMix (Some mix) = Fits16 mix

-- a server of a new list
abbrev pub FitsKey : ServerKey → Type 0
FitsKey server = Fits32 server.key × FitsServer server.address

-- what happened
abbrev pub FitsWhat : What → Type 0
FitsWhat (Accept number spec script) = Fits64 number × FitsSpec spec × FitsPlan script
FitsWhat Cancel = ⊤
FitsWhat Destroy = ⊤
FitsWhat (Take number) = Fits64 number
FitsWhat (Start number leg server link id mix moment) =
    Fits64 number × Fits8 leg × Fits32 server × Fits64 link × Fits16 id × FitsMix mix × Fits64 moment
FitsWhat (Arrive server link bytes) = Fits32 server × Fits64 link × IsBytes bytes
FitsWhat (Expire number leg moment) = Fits64 number × Fits8 leg × Fits64 moment
FitsWhat (Fault server link moment) = Fits32 server × Fits64 link × Fits64 moment
FitsWhat (Servers list) = AllByRecursion FitsKey list

-- an entry
pub record FitsEntry (entry : Entry) : Type 0 where
  pub seat_fits : Fits64 entry.seat
  pub by_fits : Fits64 entry.by
  pub what_fits : FitsWhat entry.what

-- the options but for the lists are within the limits of the options
pub record FitsOptionLine (line : OptionLine) : Type 0 where
  pub some_wait : 1 ≤ line.timeout
  pub short_wait : line.timeout ≤ 60000
  pub some_try : 1 ≤ line.tries
  pub few_tries : line.tries ≤ 10
  pub few_dots : line.ndots ≤ 15
  pub short_waits : line.max_timeout ≤ 3600000
  pub plain_reply_fits : 512 ≤ line.edns_size
  pub size_is_one : line.edns_size ≤ 65535

-- a line
abbrev pub FitsLine : Line → Type 0
FitsLine Head = ⊤
FitsLine (Set line) = FitsOptionLine line
FitsLine (Server server) = FitsServer server
FitsLine (Domain name) = FitsName name
FitsLine (Source address) = IsAddr address
FitsLine (Hosts bytes) = IsBytes bytes
FitsLine (Event entry) = FitsEntry entry
FitsLine End = ⊤

-- a run: its options are within their limits, and each item is in its range
pub record IsBook (book : Book) : Type 0 where
  pub limits : AreWithinLimits book.options
  pub servers : AllByRecursion FitsServer book.options.servers
  pub domains : AllByRecursion FitsName book.options.domains
  pub sources : AllByRecursion IsAddr book.options.sources
  pub hosts_bytes : IsBytes book.hosts
  pub entries : AllByRecursion FitsEntry book.journal
