-- The lists that the outside keeps of its calls: the log of a World, the reads of files, the puts of an output.
use Rattle.std.specs.Prelude.{◌≡◌, List, [], ◌∷◌, ◌++◌, Option, Some, None, option_map, Result, Ok, Err, MatchOption}
use Rattle.item_list.specs.declared.no_memory.NoMemory.{NoMemory}

-- a list that is told goes on with what this answer makes; want of memory leaves it
abbrev pub Logs : {Item T : Type 0} → Option (List Item) → Option (List Item) → Result T NoMemory → (T → Item) → Type 0
Logs old new (Ok answer) item = new ≡ option_map (λ items. items ++ item answer ∷ []) old
Logs old new (Err e) item = new ≡ old

-- a list that is told goes on with items of this kind
abbrev pub LogGets : {Item : Type 0} → (List Item → Type 0) → Option (List Item) → Option (List Item) → Type 0
LogGets {Item} kind old new = MatchOption old (new ≡ None) (λ earlier. (items : List Item) × (new ≡ Some (earlier ++ items)) × kind items)
