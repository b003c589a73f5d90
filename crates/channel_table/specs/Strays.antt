-- Which rows a message may answer, by its identifier.
use Rattle.std.specs.List.{AllByRecursion, list_any}
use Rattle.std.specs.Prelude.{Bool, List, None, Option, Some, [], false, get_or, length, ℕ, ◌*◌, ◌+◌, ◌<◌, ◌∷◌, ◌≡◌, ◌≢◌}
use Rattle.query_machine.specs.declared.leg.Flying.{Flying}
use Rattle.channel_table.specs.Rows.{lookups}
use Rattle.channel_table.specs.Lookups.{flying_of}
use Rattle.channel_table.specs.Starting.{flying_id}
use Rattle.channel_table.specs.declared.row.Row.{Row}
use Rattle.channel_table.specs.declared.lookup.Lookup.{Lookup}

-- the identifier of a message: the number in its first two bytes, if it has them (RFC 1035, section 4.1.1)
abbrev pub id_of : List ℕ → Option ℕ
id_of [] = None
id_of (high ∷ []) = None
id_of (high ∷ low ∷ rest) = Some (high * 256 + low)

-- an attempt has this identifier, if there is one
abbrev pub flying_with : Option ℕ → Option Flying → Bool
flying_with None flying = false
flying_with (Some id) flying = flying_id id flying

-- the attempt of a lookup has it
abbrev pub shares_id : Option ℕ → Lookup → Bool
shares_id id lookup = flying_with id (flying_of lookup)

-- an attempt of a row has it
abbrev pub row_shares_id : {T : Type 0} → Option ℕ → Row T → Bool
row_shares_id id row = list_any (shares_id id) (lookups row)

-- the row has none with it, or this number
abbrev pub Differs : {T : Type 0} → Option ℕ → ℕ → Row T → Type 0
Differs id number row = row.number ≢ number → row_shares_id id row ≡ false

-- none but the row at the index has one with it, or none has
abbrev pub IsOnlyWith : {T : Type 0} → Option ℕ → List (Row T) → Option ℕ → Type 0
IsOnlyWith id rows None = list_any (row_shares_id id) rows ≡ false
IsOnlyWith id rows (Some index) = (index < length rows) × ((d : Row _) → AllByRecursion (Differs id (get_or rows index d).number) rows)

-- the lookups of a row have its number
abbrev pub IsNumbered : {T : Type 0} → Row T → Type 0
IsNumbered row = AllByRecursion (λ (lookup : Lookup). lookup.number ≡ row.number) (lookups row)
