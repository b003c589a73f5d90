-- How the answer of a name is shown, and what the cache makes of it.
use Rattle.std.specs.Prelude.{Bool, None, Ok, Option, Some, false, true, ℕ, ◌++◌, ◌≡◌, ◌↔◌}
use Rattle.chan_types.specs.declared.answer.Answer.{Answer}
use Rattle.chan_types.specs.declared.status.Status.TheVariants.{Success}
use Rattle.dns_message.specs.declared.message.Question.{Question}
use Rattle.query_cache.specs.Cache.{Cache, after_keep, after_look, given}
use Rattle.query_cache.specs.Lifetime.{may_be_kept}
use Rattle.tool_line.specs.Words.{Text}
use Rattle.acache_tool.specs.Parts.{text_shown}
use Rattle.acache_tool.specs.declared.shown.Shown.{Shown}

-- the answer is a good one
abbrev pub IsGood : Answer → Type 0
IsGood answer = answer.status ≡ Success

-- an answer was shown for a name, as given by the cache or as sent for
pub record ShowsAnswer (is_hit : Bool) (name : Text) (answer : Answer) (old new : Shown) : Type 0 where
  pub text : new.text.items ≡ old.text.items ++ text_shown is_hit name answer
  pub good : (new.good ≡ true) ↔ ((old.good ≡ true) × IsGood answer)

-- the cache's answer was shown, and used, where it gave one; else nothing was done
abbrev pub ShowsHit : Bool → Text → Question → ℕ → Shown → Shown → Type 0
ShowsHit true name question at old new =
    (answer : Answer) × (given question at old.cache ≡ Some answer) × (new.cache ≡ after_look question (Ok (Some answer)) old.cache) × ShowsAnswer true name answer old new
ShowsHit false name question at old new = (given question at old.cache ≡ None) × (new ≡ old)

-- the cache keeps the answer, where there is a question
abbrev pub cache_with : Option Question → Answer → ℕ → Cache → Cache
cache_with None answer at cache = cache
cache_with (Some question) answer at cache = after_keep question answer at (Ok (may_be_kept answer)) cache

-- an answer that was sent for was shown, and kept from this moment on
pub record ShowsSent (name : Text) (question : Option Question) (answer : Answer) (at : ℕ) (old new : Shown) : Type 0 where
  pub shown : ShowsAnswer false name answer old new
  pub cache : new.cache ≡ cache_with question answer at old.cache
