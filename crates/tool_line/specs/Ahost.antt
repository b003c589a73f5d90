-- What the words ask of ahost.
use Rattle.std.specs.Prelude.{◌≡◌, ℕ, Bool, true, false, List, [], ◌∷◌, map, codes, Option, Some, None, option_map, option_and_then, unwrap_or}
use Rattle.std.specs.String.{string_bytes}
use Rattle.chan_types.specs.declared.orders.Orders.{Orders}
use Rattle.chan_types.specs.declared.spec.Spec.{Spec}
use Rattle.chan_types.specs.declared.spec.Spec.TheVariants.{Address}
use Rattle.net_addr.specs.declared.addr.Addr.{Addr}
use Rattle.net_addr.specs.declared.addr.Family.{Family}
use Rattle.net_addr.specs.declared.addr.Family.TheVariants.{Any}
use Rattle.net_addr.specs.declared.addr.ServerAddr.{ServerAddr}
use Rattle.tool_line.specs.Asks.{Asks}
use Rattle.tool_line.specs.Lookup.{Lookup, is_used, read_if, read_or, value_under}
use Rattle.tool_line.specs.Settings.{AreSetBy, servers_at}
use Rattle.tool_line.specs.Values.{addresses_in, family_in, number_in, path_in}
use Rattle.tool_line.specs.Words.{Table, Text}
use Rattle.tool_line.specs.declared.ahost.AhostAsk.{AhostAsk}
use Rattle.tool_line.specs.declared.ahost.Load.{Load}

-- the options of ahost, and whether each takes a value
abbrev pub ahost_options : Table
ahost_options =
    (codes "server", true)
    ∷ (codes "port", true)
    ∷ (codes "resolv", true)
    ∷ (codes "timeout", true)
    ∷ (codes "tries", true)
    ∷ (codes "tcp", false)
    ∷ (codes "no-edns", false)
    ∷ (codes "mix", false)
    ∷ (codes "hosts", true)
    ∷ (codes "family", true)
    ∷ (codes "sources", true)
    ∷ (codes "no-sort", false)
    ∷ (codes "no-search", false)
    ∷ (codes "follow", false)
    ∷ (codes "first", false)
    ∷ (codes "quit", false)
    ∷ (codes "workers", true)
    ∷ (codes "load", true)
    ∷ (codes "seed", true)
    ∷ (codes "then", true)
    ∷ (codes "journal", false)
    ∷ []

-- the requests for these hosts: there is one host or more, and with `--load` there is none
abbrev pub specs_for : Bool → Family → Bool → Option (List Text) → Option (List Spec)
specs_for true family nosort None = Some []
specs_for true family nosort (Some hosts) = None
specs_for false family nosort None = None
specs_for false family nosort (Some hosts) = Some (map (λ host. Address host family nosort) hosts)

-- the family that the words name, else any
abbrev pub family_under : Lookup → Option Family
family_under under = read_or family_in Any (value_under under (codes "family"))

-- the requests that the words ask for, in order
abbrev pub specs_in : Lookup → Option (List Spec)
specs_in under = option_and_then (λ family. specs_for (is_used under (codes "load")) family (is_used under (codes "no-sort")) (under [])) (family_under under)

-- the orders that the words give
abbrev pub orders_in : Lookup → Orders
orders_in under = record { follow = is_used under (codes "follow"); first = is_used under (codes "first"); quit = is_used under (codes "quit") }

-- the load that the words ask for: 1 to 4,096 names, by a seed up to 65,535
abbrev pub load_in : Lookup → Option (Option Load)
load_in under =
    option_and_then (λ names. option_map (λ seed. option_map (λ count. record { names = count; seed = seed }) names)
    (read_or (number_in 0 65535) 0 (value_under under (codes "seed"))))
    (read_if (number_in 1 4096) (value_under under (codes "load")))

-- the servers that are set later: they aren't with a load
abbrev pub later_for : Bool → Option ℕ → Option (List Addr) → Option (Option (List ServerAddr))
later_for loads port None = Some None
later_for true port (Some addresses) = None
later_for false port (Some addresses) = Some (Some (servers_at (unwrap_or port 53) addresses))

-- the servers that the words set later: 1 to 8 addresses, on the words' port or 53 (RFC 1035, section 4.2)
abbrev pub later_in : Lookup → Option (Option (List ServerAddr))
later_in under =
    option_and_then (λ port. option_and_then (λ addresses. later_for (is_used under (codes "load")) port addresses)
    (read_if addresses_in (value_under under (codes "then"))))
    (read_if (number_in 1 65535) (value_under under (codes "port")))

-- whether the book of the run is asked for in place of the page: it isn't with a load
abbrev pub journal_for : Bool → Bool → Option Bool
journal_for true true = None
journal_for true false = Some false
journal_for false journal = Some journal

-- whether the words ask for the book
abbrev pub journal_in : Lookup → Option Bool
journal_in under = journal_for (is_used under (codes "load")) (is_used under (codes "journal"))

-- what is said under the names asks this
pub record IsSaid (under : Lookup) (ask : AhostAsk) : Type 0 where
  -- the paths of resolv.conf and of the hosts file: those of the words, or where they lie (resolv.conf(5), hosts(5))
  pub resolv : read_or path_in (codes "/etc/resolv.conf") (value_under under (codes "resolv")) ≡ Some (string_bytes ask.resolv)
  pub hosts : read_or path_in (codes "/etc/hosts") (value_under under (codes "hosts")) ≡ Some (string_bytes ask.hosts)
  -- what the words set of the options
  pub settings : AreSetBy under ask.settings
  -- the requests, and what their callbacks may command
  pub specs : specs_in under ≡ Some ask.specs
  pub orders : ask.orders ≡ orders_in under
  -- how many threads deliver beside the first: up to 16
  pub workers : read_or (number_in 0 16) 0 (value_under under (codes "workers")) ≡ Some ask.workers
  -- the load in place of names
  pub load : load_in under ≡ Some ask.load
  -- the servers that are set while requests are pending
  pub later : later_in under ≡ Some ask.later
  -- whether the book of the run is asked for in place of the page
  pub journal : journal_in under ≡ Some ask.journal

-- these words ask this of ahost
abbrev pub AhostAsks : List Text → AhostAsk → Type 0
AhostAsks = Asks ahost_options IsSaid
