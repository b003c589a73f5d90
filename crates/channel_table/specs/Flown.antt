-- What finds the attempts in flight, and how it follows the lookups of the rows.
use Rattle.std.specs.FinMap as map
use Rattle.std.specs.FinMap.{FinMap}
use Rattle.std.specs.Ordering.{eq_by_cmp, nat_cmp}
use Rattle.std.specs.Prelude.{List, None, Option, Some, [], flat_map, if◌then◌else◌, option_map, option_to_list, ◌∷◌, ◌≡◌, ℕ}
use Rattle.std.specs.declared.cmp.Ordering.{Ordering}
use Rattle.query_machine.specs.declared.leg.Flying.{Flying}
use Rattle.timeout_queue.specs.Key.{key_cmp}
use Rattle.timeout_queue.specs.declared.key.Key.{Key}
use Rattle.channel_table.specs.Lookups.{flying_of}
use Rattle.channel_table.specs.declared.lookup.Lookup.{Lookup}
use Rattle.channel_table.specs.declared.table.flown.Flown.{Flown}

module _ {K V : Type 0} (R : K → K → Ordering) where
  -- the value of an entry, if it has this key
  abbrev pub value_at : K → Option (K × V) → List V
  value_at key None = []
  value_at key (Some e) = if eq_by_cmp R key e.0 then e.1 ∷ [] else []

  -- the map has the entries of the items, whose keys differ
  abbrev pub HasEntries : {X : Type 0} → (X → Option (K × V)) → FinMap R V → List X → Type 0
  HasEntries entry m xs = (key : K) → flat_map (λ x. value_at key (entry x)) xs ≡ option_to_list (map.get m key)

-- the key of a lookup's leg
abbrev pub key_of_lookup : Lookup → Key
key_of_lookup lookup = record { number = lookup.number; leg = lookup.leg_number }

-- the identifier of a lookup's attempt, with its leg
abbrev pub entry_by_id : Lookup → Option (ℕ × Key)
entry_by_id lookup = option_map (λ (flying : Flying). (flying.id, key_of_lookup lookup)) (flying_of lookup)

-- a lookup's leg, with when its attempt is due
abbrev pub entry_by_leg : Lookup → Option (Key × ℕ)
entry_by_leg lookup = option_map (λ (flying : Flying). (key_of_lookup lookup, flying.due)) (flying_of lookup)

-- the attempts of the lookups are those that are found
pub record AreFlown (flown : Flown) (ss : List Lookup) : Type 0 where
  pub by_id : HasEntries nat_cmp entry_by_id flown.flights ss
  pub by_leg : HasEntries key_cmp entry_by_leg flown.deadlines ss
