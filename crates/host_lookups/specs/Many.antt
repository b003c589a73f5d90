-- What answers are to who asked for the addresses of many hosts at once.
use Rattle.std.specs.Prelude.{List, Option, [], if◌then◌else◌, length, ℕ, ◌++◌, ◌+◌, ◌-◌, ◌==◌, ◌∷◌, ◌≡◌, ◌≤◌}
use Rattle.chan_types.specs.Plans.{Plan, blank}
use Rattle.chan_types.specs.declared.answer.Answer.{Answer}
use Rattle.chan_types.specs.declared.journal.Entry.{Entry}
use Rattle.channel_model.specs.Completion.{pending, ready}
use Rattle.channel_model.specs.Journal.{past_of}
use Rattle.channel_model.specs.Setting.{Setting}
use Rattle.channel_session.specs.Left.{IsOver}
use Rattle.channel_session.specs.Sitting.{longest_pause}
use Rattle.channel_table.specs.Calling.{Owned, known_by_owner}
use Rattle.event_runner.specs.Running.{Running}
use Rattle.event_runner.specs.UnderWay.{RunsSince, turned}
use Rattle.net_world.specs.declared.log.WorldCall.{WorldCall}
use Rattle.host_lookups.specs.Answered.{addresses_of, asked}
use Rattle.host_lookups.specs.Extending.{AreFates}
use Rattle.host_lookups.specs.Scripts.{follow_up, give_up}

-- the script of the callback of the host at this index, of so many: the first one follows up, the last one gives up, and those between command nothing
abbrev pub script_at : ℕ → ℕ → Plan
script_at index count = if index == 0 then follow_up else if index == count - 1 then give_up else blank 0

-- the entries by which a channel's owner asks for these hosts' addresses, of which the first has this index, of so many
abbrev pub asked_from : ℕ → ℕ → List (List ℕ) → List Entry
asked_from index count [] = []
asked_from index count (host ∷ hosts) = asked (index + 1) (addresses_of host) (script_at index count) ∷ asked_from (index + 1) count hosts

-- a channel with this setting was asked for these hosts' addresses before anything else; its journal went on lawfully, and each answer is its request's fate there, and they are those of the requests that were taken, in order
abbrev pub AreAnswered : Setting → List (List ℕ) → List Answer → Type 0
AreAnswered setting hosts answers = (since : List Entry) × AreFates setting (asked_from 0 (length hosts) hosts ++ since) answers

-- the same, and no request is pending or ready there
abbrev pub AreAllAnswered : Setting → List (List ℕ) → List Answer → Type 0
AreAllAnswered setting hosts answers =
    (since : List Entry) × AreFates setting (asked_from 0 (length hosts) hosts ++ since) answers
    × (pending setting (past_of (asked_from 0 (length hosts) hosts ++ since)) ≡ [])
    × (ready setting (past_of (asked_from 0 (length hosts) hosts ++ since)) ≡ [])

-- such a channel, whose owner made at least so many turns: a request is pending or ready, and where the network tells its log, these turns are the calls that it got
pub record AreStalled (setting : Setting) (hosts : List (List ℕ)) (answers : List Answer) (turns : ℕ) (log_old log_new : Option (List WorldCall)) : Type 0 where
  pub channel : Owned
  pub since : List Entry
  pub set : channel.setting ≡ setting
  pub journal : channel.seen ≡ asked_from 0 (length hosts) hosts ++ since
  pub fates : AreFates setting channel.seen answers
  pub left : ¬ IsOver (known_by_owner channel)
  pub made : ℕ
  pub many : turns ≤ made
  pub running : Running
  pub ran : RunsSince longest_pause made 0 turned (known_by_owner channel) running log_old log_new
