-- Which questions stand in a cache, by the calls of it alone: those that were kept, and since whose last use fewer other
-- questions were used than there is room for. Calls stand the newest first. Our own rule, that of least recent use.
use Rattle.std.specs.Prelude.{◌≡◌, ℕ, ◌+◌, ◌<◌, Bool, true, false, if◌then◌else◌, List, [], ◌∷◌, Option, Some, None, Result, Ok, Err, IfOk, is_some}
use Rattle.std.specs.List.{list_any, filter_map}
use Rattle.dns_message.specs.Question.{same_question}
use Rattle.dns_message.specs.declared.message.Question.{Question}
use Rattle.item_list.specs.declared.no_memory.NoMemory.{NoMemory}
use Rattle.chan_types.specs.declared.answer.Answer.{Answer}
use Rattle.query_cache.specs.Lifetime.{may_be_kept}
use Rattle.query_cache.specs.Cache.{Cache, new_cache, entry_of, kept_from, after_keep, after_look, given}
use Rattle.query_cache.specs.declared.kept.Kept.{Kept}

-- a call of a cache, with what it answered
pub data CacheCall : Type 0 where
  keep : Question → Answer → ℕ → Result Bool NoMemory → CacheCall
  look : Question → ℕ → Result (Option Answer) NoMemory → CacheCall

-- the question that the call used: that of a keep that answered true, or of a look that gave an answer
abbrev pub used_by : CacheCall → Option Question
used_by (keep asked answer at (Ok true)) = Some asked
used_by (keep asked answer at (Ok false)) = None
used_by (keep asked answer at (Err refused)) = None
used_by (look asked at (Ok (Some answer))) = Some asked
used_by (look asked at (Ok None)) = None
used_by (look asked at (Err refused)) = None

-- what the call kept, for so many seconds at most: a keep that answered true did
abbrev pub kept_by : ℕ → CacheCall → Option Kept
kept_by most (keep asked answer at (Ok true)) = Some (kept_from most asked answer at)
kept_by most (keep asked answer at (Ok false)) = None
kept_by most (keep asked answer at (Err refused)) = None
kept_by most (look asked at result) = None

-- what was kept last of the question
abbrev pub last_kept : ℕ → Question → List CacheCall → Option Kept
last_kept most question past = entry_of question (filter_map (kept_by most) past)

-- the questions before the first one that is the same
abbrev pub before_own : Question → List Question → List Question
before_own question [] = []
before_own question (other ∷ others) = if same_question question other then [] else other ∷ before_own question others

-- the questions of the uses since the question's last use, the latest first
abbrev pub used_since : Question → List CacheCall → List Question
used_since question past = before_own question (filter_map used_by past)

-- how many questions these are, where those that are the same count once
abbrev pub different : List Question → ℕ
different [] = 0
different (question ∷ questions) =
    if list_any (same_question question) questions then different questions else different questions + 1

-- the question stands: it has been kept, and fewer than room other questions have a use after its last use
pub record Stands (room most : ℕ) (past : List CacheCall) (question : Question) : Type 0 where
  pub kept : is_some (last_kept most question past) ≡ true
  pub recent : different (used_since question past) < room

-- the question's answer is given at a moment: the question stands, its last kept answer is this one, and its end comes later
pub record IsGiven (room most : ℕ) (past : List CacheCall) (question : Question) (at : ℕ) (answer : Answer) : Type 0 where
  pub stands : Stands room most past question
  pub entry : Kept
  pub last : last_kept most question past ≡ Some entry
  pub in_time : at < entry.end
  pub its : entry.answer ≡ answer

-- what the contract of each call says of the cache before it and after it
abbrev pub Does : CacheCall → Cache → Cache → Type 0
Does (keep asked answer at result) old new = IfOk result (λ kept. kept ≡ may_be_kept answer) × (new ≡ after_keep asked answer at result old)
Does (look asked at result) old new = IfOk result (λ found. found ≡ given asked at old) × (new ≡ after_look asked result old)

-- the calls lead to the cache, from a new one
abbrev pub LeadTo : ℕ → ℕ → List CacheCall → Cache → Type 0
LeadTo room most [] cache = cache ≡ new_cache room most
LeadTo room most (call ∷ past) cache = (before : Cache) × LeadTo room most past before × Does call before cache
