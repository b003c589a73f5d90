-- When no ticket is outside: each request that was taken was told its answer, and no other answer was told.
use Rattle.std.specs.List.{AllByRecursion}
use Rattle.std.specs.List.Sorted.{IsPermutation}
use Rattle.std.specs.Prelude.{List, Some, [], filter_map, flat_map, map, ℕ, ◌∷◌, ◌≡◌, ◌⊎◌}
use Rattle.chan_types.specs.declared.answer.Answer.{Answer}
use Rattle.chan_types.specs.declared.journal.Entry.{Entry}
use Rattle.channel_model.specs.Completion.{fate, taken_by}
use Rattle.channel_model.specs.Journal.{past_of}
use Rattle.shared_channel.specs.Passes.{PassView}

-- the requests that these entries take, in order
abbrev pub taken_in : List Entry → List ℕ
taken_in entries = filter_map (λ entry. taken_by entry.what) entries

-- the answers that were told through these passes
abbrev pub told_through : List PassView → List Answer
told_through passes = flat_map (λ pass. pass.calls) passes

-- the requests that were taken through these passes
abbrev pub taken_through : List PassView → List ℕ
taken_through passes = flat_map (λ pass. taken_in pass.own) passes

-- the answer is its request's fate, as the pass has seen it
abbrev pub IsFateSeen : PassView → Answer → Type 0
IsFateSeen pass answer = fate pass.setting answer.number (past_of pass.seen) ≡ Some answer

-- the answer is its request's fate, as one of the passes has seen it
abbrev pub IsSeenByOne : List PassView → Answer → Type 0
IsSeenByOne [] answer = ⊥
IsSeenByOne (pass ∷ passes) answer = IsFateSeen pass answer ⊎ IsSeenByOne passes answer

-- no ticket of these passes is outside: the answers that were told are, up to order, the fates of the requests that were taken
pub record AreSettled (passes : List PassView) : Type 0 where
  pub numbers : IsPermutation (taken_through passes) (map (λ answer. answer.number) (told_through passes))
  pub fates : AllByRecursion (IsSeenByOne passes) (told_through passes)

-- the same of one pass, which told each answer of what it took
pub record IsSettled (pass : PassView) : Type 0 where
  pub numbers : IsPermutation (taken_in pass.own) (map (λ answer. answer.number) pass.calls)
  pub fates : AllByRecursion (IsFateSeen pass) pass.calls
