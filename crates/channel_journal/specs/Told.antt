-- What a journal is told.
use Rattle.std.specs.Prelude.{List, [], ℕ, ◌++◌, ◌∷◌}
use Rattle.chan_types.specs.declared.journal.Entry.{Entry}
use Rattle.chan_types.specs.declared.journal.What.TheVariants.{Arrive, Cancel}

-- the journal goes on with this entry
abbrev pub adds : Entry → List Entry → List Entry
adds entry journal = journal ++ entry ∷ []

-- the entry of a message that came
abbrev pub arrived : ℕ → ℕ → ℕ → List ℕ → Entry
arrived seat server link bytes = record { seat = seat; by = 0; what = Arrive server link bytes }

-- an entry of no meaning: what a step tells whose caller picked none
abbrev pub cancelled : Entry
cancelled = record { seat = 0; by = 0; what = Cancel }
