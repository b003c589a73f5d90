-- What a table has of a past beside its requests: its servers, and the numbers that the next ones go by.
use Rattle.std.specs.Prelude.{Bool, List, cond, if◌then◌else◌, length, max, ℕ, ◌+◌, ◌==◌, ◌≡◌}
use Rattle.chan_types.specs.declared.server_key.ServerKey.{ServerKey}
use Rattle.chan_types.specs.declared.status.Status.TheVariants.{ConnRefused}
use Rattle.channel_model.specs.Choice.{failures_of_list, greatest_link}
use Rattle.channel_model.specs.Flight.{started}
use Rattle.channel_model.specs.Journal.{Past}
use Rattle.channel_model.specs.Servers.{greatest_key, greatest_of, servers_at}
use Rattle.channel_model.specs.Setting.{Setting}
use Rattle.channel_model.specs.declared.judged.Judged.{Judged}
use Rattle.channel_model.specs.declared.judged.Judged.TheVariants.{Failed}
use Rattle.query_machine.specs.Servers.{recounted, renewed}
use Rattle.channel_table.specs.Arriving.{recount_by}
use Rattle.channel_table.specs.declared.table.channel_servers.ChannelServers.{ChannelServers}

-- the list of servers, the counts of their failures, the greatest key and the greatest link that were given, and how many legs have a Start
pub record AreCounted (setting : Setting) (past : Past) (servers : ChannelServers) : Type 0 where
  pub listed : servers_at setting past ≡ servers.list
  pub failed : failures_of_list setting past ≡ servers.counts
  pub keyed : greatest_key setting past ≡ servers.greatest_key
  pub linked : greatest_link past ≡ servers.greatest_link
  pub begun : length (started past) ≡ servers.started

-- the servers behind a Start over this link, of a leg that has had one before or not
abbrev pub begun_servers : ℕ → Bool → ChannelServers → ChannelServers
begun_servers link begun servers = record servers { greatest_link = max servers.greatest_link link; started = servers.started + cond begun 0 1 }

-- the servers behind the end of an attempt on this one, which meant this
abbrev pub servers_behind : ℕ → Judged → ChannelServers → ChannelServers
servers_behind server judged servers = record servers { counts = recounted server (recount_by judged) servers.counts }

-- the servers behind a Fault of this one's link over which so many attempts were in flight: they count as one, if there is one
abbrev pub faulted_servers : ℕ → ℕ → ChannelServers → ChannelServers
faulted_servers server count servers = if count == 0 then servers else servers_behind server (Failed ConnRefused) servers

-- the servers with this list
abbrev pub renewed_servers : List ServerKey → ChannelServers → ChannelServers
renewed_servers list servers = record servers { list = list; counts = renewed list servers.counts; greatest_key = greatest_of servers.greatest_key list }
