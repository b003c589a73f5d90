-- A channel whose journal is kept, or seen by proofs alone.
use Rattle.std.specs.Prelude.{IsSomeAnd, List, None, Option, Some, [], ℕ, ◌≡◌, ⊤}
use Rattle.channel_model.specs.Known.{Calls}
use Rattle.channel_model.specs.Meanings.{Meaning}
use Rattle.channel_table.specs.Calling.{Owned, known_by_owner}
use Rattle.hosts_file.specs.declared.hosts.Hosts.{Hosts}
use Rattle.journal_text.specs.BookText.{text_of_run}
use Rattle.resolv_options.specs.declared.options.Options.{Options}
use Rattle.boxed_channel.specs.declared.journaled.Journaled.{Journaled}
use Rattle.boxed_channel.specs.declared.journaled.Journaled.TheVariants.{Kept, Untold}

-- the channel, whatever becomes of its journal
abbrev pub channel_of : Journaled → Owned
channel_of (Untold channel) = channel
channel_of (Kept channel hosts) = channel

-- the request on whose command its entries are made, or 0
abbrev pub voice_of : Journaled → ℕ
voice_of journaled = (channel_of journaled).voice

-- the bytes of the hosts file, if the journal is kept, and they with it
abbrev pub hosts_kept : Journaled → Option (List ℕ)
hosts_kept (Untold channel) = None
hosts_kept (Kept channel hosts) = Some hosts

-- the journal is kept
abbrev pub IsKept : Journaled → Type 0
IsKept journaled = IsSomeAnd (hosts_kept journaled) (λ hosts. ⊤)

-- the text of the journal, if it is kept
abbrev pub text_kept : Journaled → Option (List ℕ)
text_kept (Untold channel) = None
text_kept (Kept channel hosts) = Some (text_of_run channel.setting.options hosts channel.seen)

-- a call of the channel with this meaning was made, on this request's command or on nobody's
abbrev pub Does : Meaning → ℕ → Journaled → Journaled → Type 0
Does meaning by old new = Calls meaning by (known_by_owner (channel_of old)) (known_by_owner (channel_of new))

-- the journal is kept as before, or isn't, and so are the bytes of the hosts file
abbrev pub KeepsHosts : Journaled → Journaled → Type 0
KeepsHosts old new = hosts_kept new ≡ hosts_kept old

-- the channel has this setting, no request and no entry, on nobody's command; and its journal is kept with these bytes of a hosts file, or isn't
pub record IsOpened (options : Options) (lines : Hosts) (hosts : Option (List ℕ)) (journaled : Journaled) : Type 0 where
  pub setting : (channel_of journaled).setting ≡ record { options = options; hosts = lines }
  pub voice : voice_of journaled ≡ 0
  pub empty : (channel_of journaled).seen ≡ []
  pub kept : hosts_kept journaled ≡ hosts
