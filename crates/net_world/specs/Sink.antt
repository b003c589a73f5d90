-- What an output adds.
use Rattle.std.specs.Prelude.{◌≡◌, ℕ, List, ◌++◌, Option, option_map, Result, Ok, Err}
use mathlib.Core.List.{IsPrefix}
use Rattle.item_list.specs.declared.no_memory.NoMemory.{NoMemory}
use Rattle.net_world.specs.declared.answers.PutEnd.{PutEnd}
use Rattle.net_world.specs.declared.answers.PutEnd.TheVariants.{Done, Failed as NotPut}

-- bytes that are told go on with all of the text, or behind a failure with a part from its beginning; want of memory leaves them
abbrev pub Puts : Option (List ℕ) → Option (List ℕ) → List ℕ → Result PutEnd NoMemory → Type 0
Puts old new text (Ok Done) = new ≡ option_map (λ bytes. bytes ++ text) old
Puts old new text (Ok NotPut) = (part : List ℕ) × IsPrefix part text × (new ≡ option_map (λ bytes. bytes ++ part) old)
Puts old new text (Err e) = new ≡ old
