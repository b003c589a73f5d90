-- What a session does between two moments: takes, turns, and pauses between them.
use Rattle.std.specs.List.{list_all}
use Rattle.std.specs.Prelude.{Bool, IsTrue, List, Option, [], filter_map, is_some, ℕ, ⊤, ◌&&◌, ◌+◌, ◌==◌, ◌||◌, ◌≡◌, ◌≤◌}
use Rattle.net_world.specs.Logs.{LogGets}
use Rattle.net_world.specs.declared.log.WorldCall.{WorldCall}
use Rattle.chan_types.specs.declared.journal.Entry.{Entry}
use Rattle.channel_model.specs.Completion.{taken_by}
use Rattle.channel_model.specs.Course.{is_of_turn}
use Rattle.channel_model.specs.Journal.{own_entries}
use Rattle.channel_model.specs.Known.{GoesOn}
use Rattle.event_runner.specs.UnderWay.{RanSince, RunsSince, rested}
use Rattle.channel_session.specs.Beginning.{BegunSince}
use Rattle.channel_session.specs.Sitting.{Moment, StandsBehind, longest_pause}

-- a turn or a taking made the entry, and no callback commanded it
abbrev pub is_of_session : Entry → Bool
is_of_session entry = (is_of_turn entry || is_some (taken_by entry.what)) && (entry.by == 0)

-- the seat's own of these entries are all such: nothing was accepted, cancelled or destroyed through the desk
abbrev pub AreOfSession : ℕ → List Entry → Type 0
AreOfSession seat entries = IsTrue (list_all is_of_session (own_entries seat entries))

-- the requests that the seat's own of these entries take, in order
abbrev pub taken_in : ℕ → List Entry → List ℕ
taken_in seat entries = filter_map (λ entry. taken_by entry.what) (own_entries seat entries)

-- a log that is told only got calls
abbrev pub LogGrows : Option (List WorldCall) → Option (List WorldCall) → Type 0
LogGrows old new = LogGets (λ calls. ⊤) old new

-- the desk went on and took these requests, and a run that stood at the one moment stands at the other, behind so many turns more
pub record Advances (made : ℕ) (taken : List ℕ) (old new : Moment) : Type 0 where
  pub goes_on : GoesOn old.known new.known
  pub own : AreOfSession old.known.seat goes_on.since
  pub takes : taken_in old.known.seat goes_on.since ≡ taken
  pub grows : LogGrows old.log new.log
  pub stands : (began : Option (List WorldCall)) (turns asides : ℕ) → StandsBehind turns asides began old → StandsBehind (turns + made) asides began new

-- the desk went on without taking any request, and a run that stood at the one moment made so many turns more, and then waited, or had no reason to: where it waited, only a turn carries it on, before any entry of the desk's; and the first turn, if there is one, began where a request was pending
pub record ComesToRest (made : ℕ) (old new : Moment) : Type 0 where
  pub goes_on : GoesOn old.known new.known
  pub own : AreOfSession old.known.seat goes_on.since
  pub takes : taken_in old.known.seat goes_on.since ≡ []
  pub grows : LogGrows old.log new.log
  pub rests : (began : Option (List WorldCall)) (turns asides : ℕ) → StandsBehind turns asides began old →
      RunsSince longest_pause (turns + made) asides rested new.known new.sitting.running began new.log
  pub begun : (began : Option (List WorldCall)) (turns asides : ℕ) → StandsBehind turns asides began old → BegunSince longest_pause (turns + made) new.known began new.log

-- the desk went on without taking any request, and journal and calls may have been cut short, at the latest in so many turns more
pub record IsCutOff (most : ℕ) (old new : Moment) : Type 0 where
  pub goes_on : GoesOn old.known new.known
  pub own : AreOfSession old.known.seat goes_on.since
  pub takes : taken_in old.known.seat goes_on.since ≡ []
  pub grows : LogGrows old.log new.log
  pub ran : (began : Option (List WorldCall)) (turns asides : ℕ) → StandsBehind turns asides began old → RanSince longest_pause (turns + most) asides new.known began new.log

-- at most so many turns more
abbrev pub AdvancesAtMost : ℕ → List ℕ → Moment → Moment → Type 0
AdvancesAtMost most taken old new = (made : ℕ) × (made ≤ most) × Advances made taken old new

abbrev pub ComesToRestAtMost : ℕ → Moment → Moment → Type 0
ComesToRestAtMost most old new = (made : ℕ) × (made ≤ most) × ComesToRest made old new
