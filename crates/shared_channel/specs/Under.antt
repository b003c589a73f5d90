-- What an operation under the channel's lock means.
use Rattle.std.specs.Prelude.{List, ℕ}
use Rattle.chan_types.specs.declared.journal.Entry.{Entry}
use Rattle.channel_model.specs.Meanings.{Meaning}
use Rattle.channel_model.specs.Seen.{Happens}
use Rattle.channel_model.specs.Setting.{Setting}
use Rattle.hosts_file.specs.declared.hosts.Hosts.{Hosts}
use Rattle.resolv_options.specs.declared.options.Options.{Options}
-- the script of a callback
pub use Rattle.ticket_delivery.specs.Performing.{plan_of}

-- a channel's setting, as the lock has it
abbrev pub setting_by : Options × Hosts → Setting
setting_by both = record { options = both.0; hosts = both.1 }

-- one operation: a call with this meaning, for a seat, on a request's command or on nobody's
abbrev pub Does : Meaning → ℕ → Options × Hosts → List Entry → ℕ → List Entry → Type 0
Does meaning by setting before seat after =
    Happens meaning seat by (record { setting = setting_by setting; journal = before }) (record { setting = setting_by setting; journal = after })
