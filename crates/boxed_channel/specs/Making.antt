-- How a channel is made.
use Rattle.std.specs.Prelude.{Bool, List, None, Option, Some, [], if◌then◌else◌, ℕ, ◌≡◌}
use Rattle.chan_types.specs.Runs.{unfilled}
use Rattle.hosts_file.specs.File.{hosts_of}
use Rattle.resolv_options.specs.Resolv.{resolv_values}
use Rattle.c_types.specs.Faults.{AreReadable}
use Rattle.c_types.specs.Outgoing.{nothing}
use Rattle.boxed_channel.specs.Journaled.{channel_of, hosts_kept, voice_of}
use Rattle.boxed_channel.specs.declared.state.ChannelState.{ChannelState}

-- these bytes, where they are to be kept
abbrev pub kept_if : Bool → List ℕ → Option (List ℕ)
kept_if keeps bytes = if keeps then Some bytes else None

-- the channel has the setting that these texts of a resolv.conf and of a hosts file say, no request, on nobody's command, a journal without an entry that is kept exactly where this was wanted, and nothing that could be copied
pub record IsMadeBy (resolv hosts : List ℕ) (keeps : Bool) (state : ChannelState) : Type 0 where
  pub readable : AreReadable resolv hosts
  pub setting : (channel_of state.channel).setting ≡ record { options = resolv_values resolv; hosts = hosts_of hosts }
  pub voice : voice_of state.channel ≡ 0
  pub empty : (channel_of state.channel).seen ≡ []
  pub kept : hosts_kept state.channel ≡ kept_if keeps hosts
  pub no_attempt : state.begun ≡ nothing
  pub no_request : state.taken ≡ unfilled
