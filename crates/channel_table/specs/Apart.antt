-- Which legs have no attempt among those of the rows.
use Rattle.std.specs.List.{AllByRecursion}
use Rattle.std.specs.Prelude.{IsSomeAnd, Bool, List, false, get_or, ℕ, ◌≡◌}
use Rattle.channel_model.specs.Legs.{Leg}
use Rattle.channel_table.specs.Rows.{all_lookups, lookup_at}
use Rattle.channel_table.specs.Lookups.{is_flying, leg_of_lookup}
use Rattle.channel_table.specs.declared.row.Row.{Row}
use Rattle.channel_table.specs.declared.lookup.Lookup.{Lookup}

-- no attempt of these lookups is the leg's
abbrev pub NoneFlies : Leg → List Lookup → Type 0
NoneFlies leg ss = AllByRecursion (λ (lookup : Lookup). leg_of_lookup lookup ≡ leg → is_flying lookup ≡ false) ss

-- the row at this index has this lookup, and no attempt of the rows is that of its leg
abbrev pub IsApart : {T : Type 0} → ℕ → Bool → List (Row T) → Type 0
IsApart index second rows = (d : Row _) → IsSomeAnd (lookup_at second (get_or rows index d)) (λ (lookup : Lookup). NoneFlies (leg_of_lookup lookup) (all_lookups rows))
