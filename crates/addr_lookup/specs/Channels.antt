-- What a channel is set to, put together.
use Rattle.channel_model.specs.Setting.{Setting}
use Rattle.hosts_file.specs.declared.hosts.Hosts.{Hosts}
use Rattle.resolv_options.specs.declared.options.Options.{Options}

-- the setting of a channel with these options and this hosts file
abbrev pub set_to : Options → Hosts → Setting
set_to options hosts = record { options = options; hosts = hosts }
