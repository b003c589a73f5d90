-- What an answer is to who asked one host's addresses.
use Rattle.std.specs.List.{list_all}
use Rattle.std.specs.Prelude.{IsTrue, List, Option, Some, [], false, ℕ, ◌∷◌, ◌≡◌}
use Rattle.chan_types.specs.Plans.{Plan, blank}
use Rattle.chan_types.specs.declared.answer.Answer.{Answer}
use Rattle.chan_types.specs.declared.journal.Entry.{Entry}
use Rattle.chan_types.specs.declared.journal.What.TheVariants.{Accept}
use Rattle.chan_types.specs.declared.spec.Spec.{Spec}
use Rattle.chan_types.specs.declared.spec.Spec.TheVariants.{Address}
use Rattle.channel_model.specs.Completion.{fate}
use Rattle.channel_model.specs.Journal.{past_of}
use Rattle.channel_model.specs.Lawful.{IsLawful}
use Rattle.channel_model.specs.Setting.{Setting}
use Rattle.channel_session.specs.Advancing.{is_of_session}
use Rattle.channel_session.specs.Left.{IsOver}
use Rattle.channel_session.specs.Sitting.{longest_pause}
use Rattle.channel_table.specs.Calling.{Owned, known_by_owner}
use Rattle.event_runner.specs.Running.{Running}
use Rattle.event_runner.specs.UnderWay.{RunsSince, turned}
use Rattle.hosts_file.specs.declared.hosts.Hosts.{Hosts}
use Rattle.net_world.specs.declared.log.WorldCall.{WorldCall}
use Rattle.net_addr.specs.declared.addr.Family.TheVariants.{Any}
use Rattle.resolv_options.specs.declared.options.Options.{Options}

-- a channel's setting with these options and hosts
abbrev pub setting_with : Options → Hosts → Setting
setting_with options hosts = record { options = options; hosts = hosts }

-- nobody has used this channel: its owner speaks for no request, and nothing happened
pub record IsUnused (channel : Owned) : Type 0 where
  pub silent : channel.voice ≡ 0
  pub empty : channel.seen ≡ []

-- the request for a host's addresses of both families, in the order in which to try them
abbrev pub addresses_of : List ℕ → Spec
addresses_of host = Address host Any false

-- the entry by which a channel's owner asks this as the request with this number, with a callback of this script, and on no request's command
abbrev pub asked : ℕ → Spec → Plan → Entry
asked number spec script = record { seat = 0; by = 0; what = Accept number spec script }

-- the same of a channel's first request, with a callback that commands nothing
abbrev pub first_asked : Spec → Entry
first_asked spec = asked 1 spec (blank 0)

-- a channel with this setting was asked this, and its owner made nothing else than turns and takings behind it; that journal is lawful, and the answer is a request's fate in it
pub record IsAnswered (setting : Setting) (spec : Spec) (answer : Answer) : Type 0 where
  pub since : List Entry
  pub of_session : IsTrue (list_all is_of_session since)
  pub lawful : IsLawful setting (first_asked spec ∷ since)
  pub its_fate : fate setting answer.number (past_of (first_asked spec ∷ since)) ≡ Some answer

-- a channel with this setting was asked this, and its owner made nothing else than so many turns behind it, which took no request; that journal is lawful, something is left there, and where the network tells its log, these turns are the calls that it got
pub record IsStalled (setting : Setting) (spec : Spec) (turns : ℕ) (log_old log_new : Option (List WorldCall)) : Type 0 where
  pub channel : Owned
  pub since : List Entry
  pub set : channel.setting ≡ setting
  pub journal : channel.seen ≡ first_asked spec ∷ since
  pub of_session : IsTrue (list_all is_of_session since)
  pub lawful : IsLawful setting channel.seen
  pub left : ¬ IsOver (known_by_owner channel)
  pub running : Running
  pub ran : RunsSince longest_pause turns 0 turned (known_by_owner channel) running log_old log_new
