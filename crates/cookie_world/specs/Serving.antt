-- Drawing the words of a client cookie.
use Rattle.std.specs.Prelude.{◌≡◌, ℕ, ◌≤◌, List, ◌++◌, length, Option, option_map, Result, OnOk}
use Rattle.item_list.specs.declared.no_memory.NoMemory.{NoMemory}
use Rattle.net_world.specs.declared.log.WorldCall.{WorldCall}
use Rattle.cookie_world.specs.Rounds.{bytes_of_words, draws_of}

-- so many words were drawn, and their bytes added; for want of memory at most so many
pub record DrawsWords (count : ℕ) (result : Result Unit NoMemory) (log_old log_new : Option (List WorldCall)) (old new : List ℕ) : Type 0 where
  pub words : List ℕ
  pub most : length words ≤ count
  pub log : log_new ≡ option_map (λ calls. calls ++ draws_of words) log_old
  pub drawn : OnOk result ((length words ≡ count) × (new ≡ old ++ bytes_of_words words))
