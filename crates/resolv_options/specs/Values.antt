-- What the options of a channel are: their values, and the limits of this project's profile.
use Rattle.std.specs.Prelude.{ℕ, ◌≤◌, Bool, List, length}
use Rattle.net_addr.specs.declared.addr.Addr.{Addr}
use Rattle.net_addr.specs.declared.addr.ServerAddr.{ServerAddr}
use Rattle.resolv_options.specs.declared.flags.Flags.{Flags}
use Rattle.resolv_options.specs.declared.lookups.Lookups.{Lookups}

-- the options of a channel: times are milliseconds, sizes are bytes, and each domain is the list of its labels
pub record OptionValues : Type 0 where
  pub servers : List ServerAddr
  pub domains : List (List (List ℕ))
  pub ndots : ℕ
  pub tries : ℕ
  pub timeout : ℕ
  pub max_timeout : ℕ
  pub flags : Flags
  pub rotate : Bool
  pub lookups : Lookups
  pub edns_size : ℕ
  pub sources : List Addr

-- the options are within their limits
pub record AreWithinLimits (options : OptionValues) : Type 0 where
  pub some_server : 1 ≤ length options.servers
  pub few_servers : length options.servers ≤ 8
  pub few_domains : length options.domains ≤ 8
  pub few_sources : length options.sources ≤ 8
  pub few_dots : options.ndots ≤ 15
  pub some_try : 1 ≤ options.tries
  pub few_tries : options.tries ≤ 10
  pub some_wait : 1 ≤ options.timeout
  pub short_wait : options.timeout ≤ 60000
  pub short_waits : options.max_timeout ≤ 3600000
  pub plain_reply_fits : 512 ≤ options.edns_size
  pub size_is_one : options.edns_size ≤ 65535
