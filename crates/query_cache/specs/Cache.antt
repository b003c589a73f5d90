-- A cache of answers, and what its calls make of it.
use Rattle.std.specs.Prelude.{ℕ, ◌+◌, ◌*◌, min, Bool, true, false, not, nat_lt, if◌then◌else◌, List, [], ◌∷◌, take, filter, Option, Some, None, Result, Ok, Err}
use Rattle.std.specs.List.{find}
use Rattle.dns_message.specs.Question.{same_question}
use Rattle.dns_message.specs.declared.message.Question.{Question}
use Rattle.item_list.specs.declared.no_memory.NoMemory.{NoMemory}
use Rattle.chan_types.specs.declared.answer.Answer.{Answer}
use Rattle.query_cache.specs.Lifetime.{lifetime}
use Rattle.query_cache.specs.declared.kept.Kept.{Kept}

-- a cache: how many answers it has room for, for how many seconds it keeps one at most, and what it holds, the latest use first
pub record Cache : Type 0 where
  pub room : ℕ
  pub most : ℕ
  pub entries : List Kept

-- a cache that holds nothing yet
abbrev pub new_cache : ℕ → ℕ → Cache
new_cache room most = record { room = room; most = most; entries = [] }

-- whether the entry is of the question, ignoring ASCII case
abbrev pub is_of : Question → Kept → Bool
is_of question entry = same_question question entry.asked

-- the question's entry
abbrev pub entry_of : Question → List Kept → Option Kept
entry_of question entries = find (is_of question) entries

-- the entries of other questions
abbrev pub others : Question → List Kept → List Kept
others question entries = filter (λ entry. not (is_of question entry)) entries

-- a use of an entry: it goes first, in place of one of the same question, and as many others stay as there is room for
abbrev pub used : Kept → Cache → Cache
used entry cache = record cache { entries = take cache.room (entry ∷ others entry.asked cache.entries) }

-- the entry that keeps an answer from a moment on, in milliseconds
abbrev pub kept_from : ℕ → Question → Answer → ℕ → Kept
kept_from most asked answer at = record { asked = asked; answer = answer; end = at + 1000 * min (lifetime answer) most }

-- after a keep: the answer is used where the call said true, and else the cache is as before
abbrev pub after_keep : Question → Answer → ℕ → Result Bool NoMemory → Cache → Cache
after_keep asked answer at (Ok true) cache = used (kept_from cache.most asked answer at) cache
after_keep asked answer at (Ok false) cache = cache
after_keep asked answer at (Err refused) cache = cache

-- whether there is an entry, and the moment is before its end
abbrev pub is_before : ℕ → Option Kept → Bool
is_before at None = false
is_before at (Some entry) = nat_lt at entry.end

-- the answer of an entry, where the moment is before its end
abbrev pub answer_before : ℕ → Option Kept → Option Answer
answer_before at None = None
answer_before at (Some entry) = if nat_lt at entry.end then Some entry.answer else None

-- the answer that a look gives at a moment, in milliseconds
abbrev pub given : Question → ℕ → Cache → Option Answer
given question at cache = answer_before at (entry_of question cache.entries)

-- a use of the entry, if there is one
abbrev pub used_if : Option Kept → Cache → Cache
used_if None cache = cache
used_if (Some entry) cache = used entry cache

-- after a look: the question's entry is used where the call gave an answer, and else the cache is as before
abbrev pub after_look : Question → Result (Option Answer) NoMemory → Cache → Cache
after_look asked (Ok (Some answer)) cache = used_if (entry_of asked cache.entries) cache
after_look asked (Ok None) cache = cache
after_look asked (Err refused) cache = cache
