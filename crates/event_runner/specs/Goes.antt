-- How a part of a run goes: by a relation between standings from one state to the next, or cut short by want of memory.
use Rattle.std.specs.List.{list_all}
use Rattle.std.specs.Prelude.{Bool, Err, IsTrue, List, MatchOption, None, Ok, Result, Some, ℕ, ◌&&◌, ◌++◌, ◌==◌, ◌≡◌}
use Rattle.chan_types.specs.declared.journal.Entry.{Entry}
use Rattle.item_list.specs.declared.no_memory.NoMemory.{NoMemory}
use Rattle.net_world.specs.declared.log.WorldCall.{WorldCall}
use Rattle.channel_model.specs.Course.{is_of_turn}
use Rattle.channel_model.specs.Journal.{own_entries}
use Rattle.channel_model.specs.Known.{GoesOn}
use Rattle.channel_model.specs.Setting.{Setting}
use Rattle.channel_model.specs.Stretch.{Standing}
use Rattle.event_runner.specs.State.{Holds, IsTurnOwner, State}

-- a relation between two standings, by the entries and the calls between them, for a channel's setting and a seat
abbrev pub Stretch : Type 1
Stretch = Setting → ℕ → Standing → List Entry → List WorldCall → Standing → Type 0

-- a relation of a standing to the entries and the calls behind it
abbrev pub Break : Type 1
Break = Setting → ℕ → Standing → List Entry → List WorldCall → Type 0

-- only a turn makes such an entry, and no callback commanded it
abbrev pub is_made_in_turn : Entry → Bool
is_made_in_turn entry = is_of_turn entry && (entry.by == 0)

-- the seat's own of these entries are all such
abbrev pub AreMadeInTurns : ℕ → List Entry → Type 0
AreMadeInTurns seat entries = IsTrue (list_all is_made_in_turn (own_entries seat entries))

-- from each standing that the old state holds, these entries and calls lead by the relation to one that the new state holds
abbrev pub Leads : Stretch → State → State → List Entry → List WorldCall → Type 0
Leads relation old new entries calls =
    (from : Standing) → Holds old from → (to : Standing) × relation old.known.setting old.known.seat from entries calls to × Holds new to

-- the desk goes on, and a log that is told goes on with calls
pub record Goes (relation : Stretch) (old new : State) : Type 0 where
  pub goes_on : GoesOn old.known new.known
  -- also where the network tells no log
  pub made : AreMadeInTurns old.known.seat goes_on.since
  -- where no other seat makes entries of turns, entries and calls lead by the relation
  pub told : MatchOption old.log (new.log ≡ None) (λ earlier. (calls : List WorldCall) × (new.log ≡ Some (earlier ++ calls))
      × (IsTurnOwner new.known → Leads relation old new goes_on.since calls))

-- from each standing that the old state holds, the relation is to these entries and calls
abbrev pub Leaves : Break → State → List Entry → List WorldCall → Type 0
Leaves relation old entries calls = (from : Standing) → Holds old from → relation old.known.setting old.known.seat from entries calls

-- the same, where want of memory cut it short
pub record Stops (relation : Break) (old new : State) : Type 0 where
  pub goes_on : GoesOn old.known new.known
  pub made : AreMadeInTurns old.known.seat goes_on.since
  pub told : MatchOption old.log (new.log ≡ None) (λ earlier. (calls : List WorldCall) × (new.log ≡ Some (earlier ++ calls))
      × (IsTurnOwner new.known → Leaves relation old goes_on.since calls))

-- a part of a run went by the relation of its answer, or was cut short
abbrev pub Ends : {T : Type 0} → (T → Stretch) → Break → Result T NoMemory → State → State → Type 0
Ends whole cut (Ok answer) old new = Goes (whole answer) old new
Ends whole cut (Err fault) old new = Stops cut old new
