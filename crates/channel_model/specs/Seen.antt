-- What contracts see of a channel's whole state, and how a call changes it.
use Rattle.std.specs.Prelude.{List, None, Option, Some, [], ℕ, ◌++◌, ◌∷◌, ◌≡◌}
use Rattle.chan_types.specs.declared.journal.Entry.{Entry}
use Rattle.chan_types.specs.declared.journal.What.{What}
use Rattle.channel_model.specs.Journal.{past_of}
use Rattle.channel_model.specs.Lawful.{IsLawful}
use Rattle.channel_model.specs.Meanings.{Meaning}
use Rattle.channel_model.specs.Setting.{Setting}

-- a channel: its setting and its journal
pub record Seen : Type 0 where
  pub setting : Setting
  pub journal : List Entry

-- the entries that a call adds for a seat, on a request's command or on nobody's
abbrev pub entries_of : ℕ → ℕ → Option What → List Entry
entries_of seat by None = []
entries_of seat by (Some what) = record { seat = seat; by = by; what = what } ∷ []

-- a call with this meaning was made for a seat, on a request's command or on nobody's: it added what it means at the journal's end, and the journal is lawful with it
pub record Happens (meaning : Meaning) (seat by : ℕ) (old new : Seen) : Type 0 where
  pub added : Option What
  pub meant : meaning old.setting (past_of old.journal) added
  pub setting : new.setting ≡ old.setting
  pub journal : new.journal ≡ old.journal ++ entries_of seat by added
  pub lawful : IsLawful new.setting new.journal
