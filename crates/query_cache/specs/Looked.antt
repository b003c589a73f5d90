-- What a cache ends as, once the answer that a look lent is given back.
use Rattle.std.specs.Prelude.{◌≡◌, ⊤, Option, Some, None, Result, Ok, Err, option_copied}
use Rattle.std.specs.Borrow.{Fml, Bor, MutBor, follows_so}
use mathlib.Core.Option.{none}
use Rattle.dns_message.specs.declared.message.Question.{Question}
use Rattle.item_list.specs.declared.no_memory.NoMemory.{NoMemory}
use Rattle.chan_types.specs.declared.answer.Answer.{Answer}
use Rattle.query_cache.specs.Cache.{Cache, after_look}
use Rattle.query_cache.specs.contracts.cache.QueryCache.{the_row}

-- what a look answered
abbrev pub answer_shown : Result (Option (Bor Answer)) NoMemory → Result (Option Answer) NoMemory
answer_shown (Ok found) = Ok (option_copied found)
answer_shown (Err refused) = Err refused

-- the cache ends as a look leaves it that answered so
abbrev pub EndsLooked : MutBor Cache → Question → Result (Option (Bor Answer)) NoMemory → Fml
EndsLooked cache asked result =
    follows_so the_row the_row cache.ghost_name none (λ _ _. ⊤) (λ last. last ≡ after_look asked (answer_shown result) cache.now)
