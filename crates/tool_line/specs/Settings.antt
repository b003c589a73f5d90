-- What the words set of a channel's options. The limits and the names of the options are this project's profile.
use Rattle.std.specs.Prelude.{◌≡◌, ◌≤◌, ◌&&◌, ◌||◌, ℕ, not, List, length, map, codes, Option, Some, None, IfSome, unwrap_or}
use Rattle.net_addr.specs.declared.addr.Addr.{Addr}
use Rattle.net_addr.specs.declared.addr.ServerAddr.{ServerAddr}
use Rattle.resolv_options.specs.declared.flags.Flags.{Flags}
use Rattle.resolv_options.specs.Values.{OptionValues}
use Rattle.tool_line.specs.Lookup.{Lookup, is_used, read_if, value_under}
use Rattle.tool_line.specs.Values.{addresses_in, number_in}
use Rattle.tool_line.specs.declared.switches.Switches.{Switches}

-- what the words set: each of these where its option was used, and the switches that were turned
pub record SettingValues : Type 0 where
  pub servers : Option (List Addr)
  pub port : Option ℕ
  pub timeout : Option ℕ
  pub tries : Option ℕ
  pub sources : Option (List Addr)
  pub switches : Switches

-- the switches: each is turned by the flag of its name
abbrev pub switches_in : Lookup → Switches
switches_in under = record {
  tcp = is_used under (codes "tcp");
  primary = is_used under (codes "primary");
  ignore_tc = is_used under (codes "ignore-tc");
  no_recurse = is_used under (codes "no-recurse");
  no_search = is_used under (codes "no-search");
  no_check = is_used under (codes "no-check");
  no_edns = is_used under (codes "no-edns");
  mix = is_used under (codes "mix");
}

-- the words set this: servers and sources are 1 to 8 addresses, the port is 1 to 65,535, the first wait 1 to 60,000 ms, and there are 1 to 10 tries
pub record AreSetBy (under : Lookup) (settings : SettingValues) : Type 0 where
  pub servers : read_if addresses_in (value_under under (codes "server")) ≡ Some settings.servers
  pub port : read_if (number_in 1 65535) (value_under under (codes "port")) ≡ Some settings.port
  pub timeout : read_if (number_in 1 60000) (value_under under (codes "timeout")) ≡ Some settings.timeout
  pub tries : read_if (number_in 1 10) (value_under under (codes "tries")) ≡ Some settings.tries
  pub sources : read_if addresses_in (value_under under (codes "sources")) ≡ Some settings.sources
  pub switches : settings.switches ≡ switches_in under

-- the settings are within the limits of a channel's options
pub record AreWithin (settings : SettingValues) : Type 0 where
  pub servers : IfSome settings.servers (λ addresses. (1 ≤ length addresses) × (length addresses ≤ 8))
  pub port : IfSome settings.port (λ port. (1 ≤ port) × (port ≤ 65535))
  pub timeout : IfSome settings.timeout (λ timeout. (1 ≤ timeout) × (timeout ≤ 60000))
  pub tries : IfSome settings.tries (λ tries. (1 ≤ tries) × (tries ≤ 10))
  pub sources : IfSome settings.sources (λ addresses. (1 ≤ length addresses) × (length addresses ≤ 8))

-- the servers at these addresses, all on this port
abbrev pub servers_at : ℕ → List Addr → List ServerAddr
servers_at port addresses = map (λ address. record { address = address; port = port }) addresses

-- the servers that are asked: those of the words in place of the others, on port 53 (RFC 1035, section 4.2); a port of the words is that of all
abbrev pub servers_with : Option (List Addr) → Option ℕ → List ServerAddr → List ServerAddr
servers_with (Some addresses) port others = servers_at (unwrap_or port 53) addresses
servers_with None port others = map (λ server. record { address = server.address; port = unwrap_or port server.port }) others

-- the flags, with those that the words turn: all are turned on, but for OPT records, which are turned off
abbrev pub flags_with : Switches → Flags → Flags
flags_with switches flags = record {
  usevc = switches.tcp || flags.usevc;
  primary = switches.primary || flags.primary;
  igntc = switches.ignore_tc || flags.igntc;
  norecurse = switches.no_recurse || flags.norecurse;
  nosearch = switches.no_search || flags.nosearch;
  nocheckresp = switches.no_check || flags.nocheckresp;
  edns = not switches.no_edns && flags.edns;
  mix = switches.mix || flags.mix;
}

-- the options, with what the words set in place of what they were
abbrev pub options_with : SettingValues → OptionValues → OptionValues
options_with settings options = record options {
  servers = servers_with settings.servers settings.port options.servers;
  timeout = unwrap_or settings.timeout options.timeout;
  tries = unwrap_or settings.tries options.tries;
  sources = unwrap_or settings.sources options.sources;
  flags = flags_with settings.switches options.flags;
}
