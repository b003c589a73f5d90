-- How legs end, by the answers of their replies in place of the replies' bytes.
use Rattle.std.specs.Prelude.{◌≡◌, IsTrue, List, [], All, if◌then◌else◌}
use Rattle.chan_types.specs.declared.status.Status.TheVariants.{Success}
use Rattle.dns_message.specs.Validity.{IsWellFormed}
use Rattle.dns_message.specs.declared.message.Record.{Record}
use Rattle.channel_model.specs.LegEnd.{LegEnd as Ending}
use Rattle.channel_model.specs.Merge.{same_status, answers_of}
use Rattle.addr_lookup.specs.declared.leg_end.LegEnd.{LegEnd}
use Rattle.addr_lookup.specs.declared.leg_end.LegEnd.TheVariants.{Unused, Ended}

-- each record of the leg's reply has the shape of its kind and class
abbrev pub AreWellFormed : LegEnd → Type 0
AreWellFormed Unused = Unit {0}
AreWellFormed (Ended status records) = All IsWellFormed records

-- the leg ended as the journal says: with this status, and where that is Success with the answers of this reply
abbrev pub IsEnd : LegEnd → Ending → Type 0
IsEnd Unused end = ⊥
IsEnd (Ended status records) end = (status ≡ end.status) × (IsTrue (same_status status Success) → records ≡ answers_of end.reply)

-- the answers that count: none where the status isn't Success
abbrev pub counted : LegEnd → List Record
counted Unused = []
counted (Ended status records) = if same_status status Success then records else []

-- there is a leg
abbrev pub IsUsed : LegEnd → LegEnd → Type 0
IsUsed Unused Unused = ⊥
IsUsed (Ended status records) right = Unit {0}
IsUsed Unused (Ended status records) = Unit {0}
