-- The options of a channel that nobody has set. That queries have an OPT record is this project's profile.
use Rattle.std.specs.Prelude.{true, false, [], ◌∷◌}
use Rattle.net_addr.specs.declared.addr.Addr.TheVariants.{V4}
use Rattle.net_addr.specs.declared.addr.ServerAddr.{ServerAddr}
use Rattle.resolv_options.specs.declared.flags.Flags.{Flags}
use Rattle.resolv_options.specs.declared.lookups.Lookups.TheVariants.{FilesDns}
use Rattle.resolv_options.specs.Values.{OptionValues}

-- port 53 of 127.0.0.1
abbrev pub local_server : ServerAddr
local_server = record { address = V4 2130706433; port = 53 }

-- queries have an OPT record, and no other switch is on
abbrev pub plain_flags : Flags
plain_flags = record { usevc = false; primary = false; igntc = false; norecurse = false; nosearch = false; nocheckresp = false; edns = true; mix = false }

-- the default options
abbrev pub plain_values : OptionValues
plain_values = record {
  servers = local_server ∷ [];
  domains = [];
  ndots = 1;
  tries = 3;
  timeout = 2000;
  max_timeout = 0;
  flags = plain_flags;
  rotate = false;
  lookups = FilesDns;
  edns_size = 1232;
  sources = [];
}
