-- What a channel is set to: its options, and its hosts file.
use Rattle.hosts_file.specs.declared.hosts.Hosts.{Hosts}
use Rattle.resolv_options.specs.declared.options.Options.{Options}

-- the setting of a channel, which no entry changes
pub record Setting : Type 0 where
  pub options : Options
  pub hosts : Hosts
