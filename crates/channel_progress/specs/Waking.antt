-- Whether a network wakes in time: a wait that didn't fail ends with something to receive, or at its moment.
use Rattle.std.specs.List.{list_any}
use Rattle.std.specs.Option.{option_map_or}
use Rattle.std.specs.Prelude.{Bool, IsFalse, IsTrue, List, None, Option, Some, [], filter_map, nat_le, not, true, ℕ, ◌&&◌, ◌||◌, ◌∷◌}
use Rattle.net_world.specs.Cause.{is_not_waited}
use Rattle.net_world.specs.declared.answers.Waited.{Waited}
use Rattle.net_world.specs.declared.answers.Waited.TheVariants.{Failed as NotWaited, Woken}
use Rattle.net_world.specs.declared.log.WorldCall.{WorldCall}
use Rattle.net_world.specs.declared.log.WorldCall.TheVariants.{Close, Connect, Now, Receive, Send, Serve, Wait, Word, Write}
use Rattle.channel_model.specs.Calls.{received_by}
use Rattle.channel_model.specs.Endings.{waited_by}
use Rattle.channel_model.specs.Lawful.{first}
use Rattle.channel_model.specs.Turn.{is_nothing}

-- what the clock read, where the call reads it
abbrev pub read_by : WorldCall → Option ℕ
read_by (Serve server address) = None
read_by (Now reading) = Some reading
read_by (Word word) = None
read_by (Send server bytes outcome) = None
read_by (Connect server link outcome) = None
read_by (Write link bytes outcome) = None
read_by (Receive got) = None
read_by (Close link) = None
read_by (Wait until outcome) = None

-- the moment up to which was waited, where the wait didn't fail
abbrev pub moment_if_woken : ℕ → Waited → Option ℕ
moment_if_woken until Woken = Some until
moment_if_woken until NotWaited = None

-- the moment up to which the call waited, where it waits and didn't fail
abbrev pub woken_by : WorldCall → Option ℕ
woken_by (Serve server address) = None
woken_by (Now reading) = None
woken_by (Word word) = None
woken_by (Send server bytes outcome) = None
woken_by (Connect server link outcome) = None
woken_by (Write link bytes outcome) = None
woken_by (Receive got) = None
woken_by (Close link) = None
woken_by (Wait until outcome) = moment_if_woken until outcome

-- the next of these calls that receives doesn't receive Nothing, or the next that reads the clock reads this moment or a later one
abbrev pub is_in_time : ℕ → List WorldCall → Bool
is_in_time until calls =
    option_map_or (λ got. not (is_nothing got)) (first (filter_map received_by calls)) true
    || option_map_or (λ reading. nat_le until reading) (first (filter_map read_by calls)) true

-- what stands behind each wait that didn't fail is in time for it
abbrev pub wakes_in_time : List WorldCall → Bool
wakes_in_time [] = true
wakes_in_time (call ∷ calls) = option_map_or (λ until. is_in_time until calls) (woken_by call) true && wakes_in_time calls

-- behind each wait of the log that was woken, the next receive isn't Nothing, or the next reading is at the wait's moment or past it
abbrev pub WakesInTime : List WorldCall → Type 0
WakesInTime log = IsTrue (wakes_in_time log)

-- no wait of the log failed
abbrev pub NoWaitFailed : List WorldCall → Type 0
NoWaitFailed log = IsFalse (list_any is_not_waited (filter_map waited_by log))
