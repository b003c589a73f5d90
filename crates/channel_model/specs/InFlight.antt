-- When an attempt is in flight, said by positions: its Start stands before, and nothing since has closed it.
use Rattle.std.specs.Prelude.{List, [], ⊤, ◌∷◌, IsFalse, ◌++◌, ◌≡◌, Some}
use Rattle.chan_types.specs.declared.journal.What.{What}
use Rattle.channel_model.specs.Flight.{Attempt, closes, begun_by}
use Rattle.channel_model.specs.Journal.{Past}
use Rattle.channel_model.specs.Setting.{Setting}

module _ (setting : Setting) (a : Attempt) where
  -- none of the newer entries closes the attempt, each at its own position
  abbrev pub NoneCloses : List What → Past → Type 0
  NoneCloses [] past = ⊤
  NoneCloses (what ∷ newer) past = IsFalse (closes setting a what (newer ++ past)) × NoneCloses newer past

  -- the past is newer entries, the Start of the attempt, and older ones; and none of the newer closes it
  pub record IsInFlight (past : Past) : Type 0 where
    pub newer : List What
    pub start : What
    pub older : Past
    pub parts : past ≡ newer ++ start ∷ older
    pub begun : begun_by start ≡ Some a
    pub spared : NoneCloses newer (start ∷ older)
