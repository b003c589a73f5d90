-- What ends a run before its page: a wait that failed, or turns that are used up while a request is pending.
use Rattle.std.specs.Prelude.{Bool, IsTrue, List, None, Option, Some, [], count_by, false, filter_map, length, not, true, ℕ, ◌++◌, ◌==◌, ◌∷◌, ◌≡◌}
use Rattle.chan_types.specs.declared.journal.Entry.{Entry}
use Rattle.net_world.specs.declared.answers.Waited.{Waited}
use Rattle.net_world.specs.declared.answers.Waited.TheVariants.{Failed as NotWaited}
use Rattle.net_world.specs.declared.log.WorldCall.{WorldCall}
use Rattle.net_world.specs.declared.log.WorldCall.TheVariants.{Close, Connect, Now, Receive, Send, Serve, Wait, Word, Write}
use Rattle.channel_model.specs.Completion.{pending}
use Rattle.channel_model.specs.Course.{IsCourse, Round}
use Rattle.channel_model.specs.Journal.{Past}
use Rattle.channel_model.specs.Lawful.{first}
use Rattle.channel_model.specs.Setting.{Setting}
use Rattle.channel_model.specs.Turn.{somewhere}

-- how a call that waits ended
abbrev pub waited_by : WorldCall → Option Waited
waited_by (Serve server address) = None
waited_by (Now reading) = None
waited_by (Word word) = None
waited_by (Send server bytes outcome) = None
waited_by (Connect server link outcome) = None
waited_by (Write link bytes outcome) = None
waited_by (Receive got) = None
waited_by (Close link) = None
waited_by (Wait until outcome) = Some outcome

-- the call reads the clock
abbrev pub is_reading : WorldCall → Bool
is_reading (Serve server address) = false
is_reading (Now reading) = true
is_reading (Word word) = false
is_reading (Send server bytes outcome) = false
is_reading (Connect server link outcome) = false
is_reading (Write link bytes outcome) = false
is_reading (Receive got) = false
is_reading (Close link) = false
is_reading (Wait until outcome) = false

-- how often the clock was read: once in each turn, and beside that where a course says so
abbrev pub turns_in : List WorldCall → ℕ
turns_in log = count_by is_reading log

-- the last wait of the log failed
pub record LastWaitFailed (log : List WorldCall) : Type 0 where
  pub earlier : List Waited
  pub failed : filter_map waited_by log ≡ earlier ++ NotWaited ∷ []

-- behind the last of these turns, or from the beginning on where there is none, the test holds at a position
abbrev pub somewhere_behind : (Past → Bool) → List Entry → List Round → Bool
somewhere_behind test first [] = somewhere test [] first
somewhere_behind test first (round ∷ []) = somewhere test round.new.past round.between
somewhere_behind test first (round ∷ next ∷ rounds) = somewhere_behind test first (next ∷ rounds)

module _ (setting : Setting) where
  -- all turns were made by the seat, and a request was pending at a position behind the last
  pub record IsStalledBehind (seat slice turns : ℕ) (journal : List Entry) (log : List WorldCall) : Type 0 where
    pub course : IsCourse setting seat slice journal log turns 0
    pub left_pending : IsTrue (somewhere_behind (λ past. not (length (pending setting past) == 0)) course.first course.rounds)
