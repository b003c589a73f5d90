-- What becomes of a channel's journal, and what answers are to it.
use Rattle.std.specs.List.{AllByRecursion}
use Rattle.std.specs.Prelude.{List, Option, Some, map, ℕ, ◌++◌, ◌+◌, ◌≡◌, ◌≤◌}
use Rattle.chan_types.specs.declared.answer.Answer.{Answer}
use Rattle.chan_types.specs.declared.journal.Entry.{Entry}
use Rattle.channel_model.specs.Completion.{fate, taken}
use Rattle.channel_model.specs.Journal.{past_of}
use Rattle.channel_model.specs.Lawful.{IsLawful}
use Rattle.channel_model.specs.Setting.{Setting}
use Rattle.channel_session.specs.Left.{IsOver}
use Rattle.channel_session.specs.Sitting.{Moment, Sitting, StandsBehind, moment_of}
use Rattle.channel_table.specs.Calling.{Owned, known_by_owner}
use Rattle.net_world.specs.declared.log.WorldCall.{WorldCall}

-- the channel's journal went on, and is lawful if it was
pub record Extends (old new : Owned) : Type 0 where
  pub since : List Entry
  pub seen : new.seen ≡ old.seen ++ since
  pub setting : new.setting ≡ old.setting
  pub lawful : IsLawful old.setting old.seen → IsLawful new.setting new.seen

-- a run that stands with the one channel stands so with the other
abbrev pub StandsStill : Owned → Owned → Type 0
StandsStill old new =
    (sitting : Sitting) (log began : Option (List WorldCall)) (turns asides : ℕ) → StandsBehind turns asides began (moment_of (known_by_owner old) sitting log) →
    StandsBehind turns asides began (moment_of (known_by_owner new) sitting log)

-- something is pending or ready at the one moment, and a run that stood at the other stands there, behind at least so many turns more
abbrev pub StallsOn : ℕ → Moment → Moment → Type 0
StallsOn turns old new =
    (¬ IsOver new.known)
    × ((began : Option (List WorldCall)) (made : ℕ) → StandsBehind made 0 began old → (more : ℕ) × (turns ≤ more) × StandsBehind (made + more) 0 began new)

-- no request was taken in between
abbrev pub TakesNone : Owned → Owned → Type 0
TakesNone old new = taken (past_of new.seen) ≡ taken (past_of old.seen)

-- the journal is lawful, each of these answers is its request's fate there, and they are those of the requests that were taken, in order
pub record AreFates (setting : Setting) (journal : List Entry) (answers : List Answer) : Type 0 where
  pub lawful : IsLawful setting journal
  pub each : AllByRecursion (λ answer. fate setting answer.number (past_of journal) ≡ Some answer) answers
  pub taken_are : taken (past_of journal) ≡ map (λ answer. answer.number) answers
