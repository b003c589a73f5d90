-- How a shared channel ends.
use Rattle.std.specs.List.{AllByRecursion, Contains, range_with_len}
use Rattle.std.specs.List.Sorted.{IsPermutation}
use Rattle.std.specs.Prelude.{Bool, List, None, Some, [], length, map, min, sum_by, ℕ, ◌+◌, ◌++◌, ◌-◌, ◌<◌, ◌^◌, ◌∷◌, ◌≡◌}
use mathlib.Core.List.{IsPrefix}
use Rattle.atomic_table.specs.Seated.{TableId}
use Rattle.chan_types.specs.declared.answer.Answer.{Answer}
use Rattle.chan_types.specs.declared.journal.Entry.{Entry}
use Rattle.chan_types.specs.declared.orders.Orders.{Orders}
use Rattle.channel_model.specs.Completion.{fate, pending, ready}
use Rattle.channel_model.specs.Journal.{accepted, own_entries, past_of}
use Rattle.channel_model.specs.Known.{Calls}
use Rattle.channel_model.specs.Lawful.{IsLawful}
use Rattle.channel_model.specs.Meanings.{Destroys}
use Rattle.channel_model.specs.Setting.{Setting}
use Rattle.completion_ticket.specs.States.{CalledState}
use Rattle.seat_lock.specs.declared.view.Left.{Left}
use Rattle.shared_channel.specs.Passes.{PassView, desk_of}
use Rattle.shared_channel.specs.Settling.{told_through}
use Rattle.shared_channel.specs.Spending.{DeliversOne}
use Rattle.shared_channel.specs.declared.finishing.Finished.{Finished}

-- a pass of a channel with this lock and setting, which has so many, and into which none was joined
pub record IsOneOf (lock : TableId) (setting : Setting) (seats : ℕ) (pass : PassView) : Type 0 where
  pub lock_is : pass.lock ≡ lock
  pub setting_is : pass.setting ≡ setting
  pub seats_are : pass.seats ≡ seats
  pub alone : pass.joined ≡ []

-- these are all passes of the channel with this lock, each once
pub record AreAllPasses (lock : TableId) (passes : List PassView) : Type 0 where
  pub setting : Setting
  pub some : 0 < length passes
  pub each : AllByRecursion (IsOneOf lock setting (length passes)) passes
  pub numbers : IsPermutation (range_with_len 0 (length passes)) (map (λ pass. pass.number) passes)

-- ready requests were delivered through a pass, one after the other, and this is left of their callbacks
abbrev pub DeliversSome : Orders → PassView → List CalledState → PassView → Type 0
DeliversSome orders old [] new = new ≡ old
DeliversSome orders old (called ∷ more) new = (middle : PassView) × DeliversOne orders old (Some called) middle × DeliversSome orders middle more new

-- and then none was ready
pub record DeliversAll (orders : Orders) (old new : PassView) : Type 0 where
  pub called : List CalledState
  pub middle : PassView
  pub some : DeliversSome orders old called middle
  pub none : DeliversOne orders middle None new

-- a pass at this lock into which none was joined
abbrev pub IsAlone : TableId → PassView → Type 0
IsAlone lock pass = (pass.lock ≡ lock) × (pass.joined ≡ [])

-- what a pass leaves as it is joined into another
abbrev pub left_by_pass : PassView → Left Entry
left_by_pass pass = record { number = pass.number; own = pass.own; seen = pass.seen }

-- the left pass after the right one was joined into it
pub record JoinsPass (left right now : PassView) : Type 0 where
  pub seen_left : IsPrefix left.seen now.seen
  pub seen_right : IsPrefix right.seen now.seen
  pub joined : now.joined ≡ left.joined ++ left_by_pass right ∷ right.joined
  pub calls : now.calls ≡ left.calls ++ right.calls
  pub lost : now.lost ≡ min (left.lost + right.lost) (2 ^ 64 - 1)
  pub rest : now ≡ record left { seen = now.seen; joined = now.joined; calls = now.calls; lost = now.lost }

-- a pass has seen all entries that it made
abbrev pub HasSeenOwn : PassView → Type 0
HasSeenOwn pass = pass.own ≡ own_entries pass.number pass.seen

-- the number of a pass and its own entries, or of one that was joined
pub record Share : Type 0 where
  pub number : ℕ
  pub own : List Entry

abbrev pub share_of : PassView → Share
share_of pass = record { number = pass.number; own = pass.own }

abbrev pub share_left : Left Entry → Share
share_left left = record { number = left.number; own = left.own }

-- it is the first of these passes, which has seen more, has others joined into it, and has their answers and lost requests too
abbrev pub IsFirstOfAll : List PassView → PassView → Type 0
IsFirstOfAll [] all = ⊥
IsFirstOfAll (pass ∷ passes) all = all ≡ record pass { seen = all.seen; joined = all.joined; calls = all.calls; lost = all.lost }

-- the pass of all these passes, joined into the first: it has seen what each had, and each had seen all that it made
pub record IsJoined (passes : List PassView) (all : PassView) : Type 0 where
  pub first : IsFirstOfAll passes all
  pub shares : share_of all ∷ map share_left all.joined ≡ map share_of passes
  pub seen : AllByRecursion (λ pass. IsPrefix pass.seen all.seen) passes
  pub own : AllByRecursion HasSeenOwn passes
  pub calls : all.calls ≡ told_through passes
  pub lost : all.lost ≡ min (sum_by (λ pass. pass.lost) passes) (2 ^ 64 - 1)

-- the passes behind the first
abbrev pub behind_first : List PassView → List PassView
behind_first [] = []
behind_first (pass ∷ passes) = passes

-- the channel is destroyed through a pass, unless it was before, and then all that is ready is delivered through it
pub record EmptiesChannel (orders : Orders) (all last : PassView) : Type 0 where
  pub is_first : Bool
  pub destroyed : PassView
  pub destroys : Calls (Destroys is_first) 0 (desk_of all) (desk_of destroyed)
  pub delivered : DeliversAll orders destroyed last

-- one of these passes has the number
abbrev pub IsNumberOfOne : List PassView → ℕ → Type 0
IsNumberOfOne passes number = Contains (map (λ pass. pass.number) passes) number

-- the journal of these passes' channel in the end, where this is the pass of all as they were joined
pub record IsJournalOfAll (passes : List PassView) (all : PassView) (journal : List Entry) : Type 0 where
  -- it begins with what the pass of all had seen then, and one of the passes had seen all of that
  pub made : List Entry
  pub parts : journal ≡ all.seen ++ made
  pub seen_by_one : Contains (map (λ pass. pass.seen) passes) all.seen
  -- what was made since is the first one's
  pub made_by_first : AllByRecursion (λ entry. entry.seat ≡ all.number) made
  -- each entry is one of these passes'
  pub makers : AllByRecursion (λ entry. IsNumberOfOne passes entry.seat) journal
  -- and a pass's own entries are its filter, those of the first with what it made since
  pub first_owns : own_entries all.number journal ≡ all.own ++ made
  pub owns : AllByRecursion (λ pass. pass.own ≡ own_entries pass.number journal) (behind_first passes)

-- the journal is lawful, and nothing is left in its channel
pub record LeavesNothing (setting : Setting) (journal : List Entry) : Type 0 where
  pub lawful : IsLawful setting journal
  pub none_pending : pending setting (past_of journal) ≡ []
  pub none_ready : ready setting (past_of journal) ≡ []

-- the answers are those that were told through these passes, and behind them one for each callback that was called since
pub record TellsBehind (passes : List PassView) (calleds : List CalledState) (answers : List Answer) : Type 0 where
  pub told : List Answer
  pub parts : answers ≡ told_through passes ++ told
  pub numbers : map (λ answer. answer.number) told ≡ map (λ called. called.number) calleds

-- the answers of so many requests are one for each of them, its fate, and no other
pub record AnswersAll (setting : Setting) (journal : List Entry) (count : ℕ) (answers : List Answer) : Type 0 where
  -- up to order, their numbers are those from 1 to the count, each once
  pub numbers : IsPermutation (range_with_len 1 count) (map (λ answer. answer.number) answers)
  pub as_many : length answers ≡ count
  -- each is the fate of the request with its number
  pub fates : AllByRecursion (λ answer. fate setting answer.number (past_of journal) ≡ Some answer) answers

-- what is left of a channel with these passes, whose journal was told this
pub record Finishes {J : Type 0} (told : J → List Entry) (orders : Orders) (passes : List PassView) (finished : Finished J) : Type 0 where
  -- the passes are joined, and through the pass of all the channel is emptied
  pub all : PassView
  pub joined : IsJoined passes all
  pub last : PassView
  pub emptied : EmptiesChannel orders all last
  -- the journal, the answers and the count of lost requests are those that this pass has in the end
  pub seen : told finished.journal ≡ last.seen
  pub calls : finished.calls ≡ last.calls
  pub lost : finished.lost ≡ last.lost
  -- the journal goes on behind what each pass had seen, and has entries of these passes alone
  pub journal : IsJournalOfAll passes all (told finished.journal)
  -- it is lawful, and nothing is left in the channel
  pub nothing : LeavesNothing all.setting (told finished.journal)
  -- the answers go on behind those that were told through the passes
  pub tells : TellsBehind passes emptied.delivered.called finished.calls
  -- as many requests were accepted, and each has exactly one answer, its fate
  pub accepted_are : finished.accepted ≡ length (accepted (past_of (told finished.journal)))
  pub answers : AnswersAll all.setting (told finished.journal) finished.accepted finished.calls
