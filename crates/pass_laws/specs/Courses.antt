-- What was done through the passes of a shared channel, from its making to its end.
use Rattle.std.specs.List.{AllByRecursion, list_all}
use Rattle.std.specs.Prelude.{Bool, IsTrue, List, Some, [], count_by, length, map, min, not, sum_by, ℕ, ◌&&◌, ◌+◌, ◌++◌, ◌-◌, ◌==◌, ◌^◌, ◌≡◌, ◌≢◌}
use Rattle.atomic_table.specs.Seated.{TableId}
use Rattle.chan_types.specs.declared.answer.Answer.{Answer}
use Rattle.chan_types.specs.declared.journal.Entry.{Entry}
use Rattle.chan_types.specs.declared.orders.Orders.{Orders}
use Rattle.channel_model.specs.Commands.{ObeysOrders, closing_position, past_at}
use Rattle.channel_model.specs.Completion.{occurrences, pending, ready}
use Rattle.channel_model.specs.Journal.{is_destroy, past_of, script_of}
use Rattle.channel_model.specs.Setting.{Setting}
use Rattle.seat_laws.specs.Shifts.{DoesWorks, Telling, Work, called_for, handed_over, tellings}
use Rattle.shared_channel.specs.Finishing.{Finishes}
use Rattle.shared_channel.specs.Making.{IsNewChannel}
use Rattle.shared_channel.specs.Passes.{PassView, desk_of}
use Rattle.shared_channel.specs.declared.finishing.Finished.{Finished}

-- the answers that were told
abbrev pub answers_told : List Work → List Answer
answers_told works = map (λ telling. telling.answer) (tellings works)

-- how many requests were lost, each call's as far as a count goes
abbrev pub lost_in : List Work → ℕ
lost_in works = sum_by (λ telling. telling.lost) (tellings works)

-- these were done through a pass, one after the other; the answers were told through it, and so many requests were lost
pub record DoesThrough (orders : Orders) (works : List Work) (old new : PassView) : Type 0 where
  pub does : DoesWorks orders works (desk_of old) (desk_of new)
  pub calls : new.calls ≡ old.calls ++ answers_told works
  pub lost : min new.lost (2 ^ 64 - 1) ≡ min (old.lost + lost_in works) (2 ^ 64 - 1)

-- a pass as it was made, what was done through it, and as it was handed back
pub record Course : Type 0 where
  pub before : PassView
  pub works : List Work
  pub after : PassView

-- the callback is the one with which the request was accepted
abbrev pub HasItsScript : Setting → List Entry → Telling → Type 0
HasItsScript setting journal telling = script_of telling.answer.number (past_of journal) ≡ Some telling.script

-- what was done through this pass, in a channel that came to this journal: no callback was called for others of a request that was taken here, and each has the script with which it was accepted
pub record IsCourseIn (orders : Orders) (setting : Setting) (journal : List Entry) (course : Course) : Type 0 where
  pub does : DoesThrough orders course.works course.before course.after
  pub apart : (request : ℕ) → occurrences request (called_for course.works) ≢ 0 → occurrences request (handed_over course.works) ≡ 0
  pub scripts : AllByRecursion (HasItsScript setting journal) (tellings course.works)

-- the entry destroys the channel, and no callback commanded it
abbrev pub is_closing : Entry → Bool
is_closing entry = is_destroy entry.what && (entry.by == 0)

-- nothing is pending and nothing ready behind these entries, by which nobody closed the channel
pub record IsQuiet (setting : Setting) (seen : List Entry) : Type 0 where
  pub none_pending : pending setting (past_of seen) ≡ []
  pub none_ready : ready setting (past_of seen) ≡ []
  pub unclosed : IsTrue (list_all (λ entry. not (is_closing entry)) seen)

module _ {J : Type 0} (told : J → List Entry) (orders : Orders) (lock : TableId) (setting : Setting) (count : ℕ) (courses : List Course) (finished : Finished J) where
  -- a channel was made with so many passes, these were done through each, and then it was finished
  pub record EndsBehind : Type 0 where
    pub made : IsNewChannel lock setting count (map (λ course. course.before) courses)
    pub each : AllByRecursion (IsCourseIn orders setting (told finished.journal)) courses
    pub finishes : Finishes told orders (map (λ course. course.after) courses) finished

  -- the callbacks were obeyed, none of their commands behind this position, and as many of the requests that they asked were lost as are counted
  abbrev pub AreObeyedUpTo : ℕ → Type 0
  AreObeyedUpTo last = (lost : ℕ) × ObeysOrders setting (told finished.journal) count orders last lost × (min finished.lost (2 ^ 64 - 1) ≡ min lost (2 ^ 64 - 1))

  -- all were; and where no callback was called as the channel was finished, none behind what was seen before that
  pub record AreObeyed (ends : EndsBehind) : Type 0 where
    pub obeyed : AreObeyedUpTo (length (told finished.journal))
    pub in_time : ends.finishes.emptied.delivered.called ≡ [] → AreObeyedUpTo (length ends.finishes.all.seen)

  -- nothing was cut short: the channel was closed where all that its passes had seen ends, and what callbacks commanded was performed before that
  pub record EndsInTime (ends : EndsBehind) : Type 0 where
    pub closing : closing_position (told finished.journal) ≡ length ends.finishes.all.seen
    pub past : past_at (told finished.journal) (closing_position (told finished.journal)) ≡ past_of ends.finishes.all.seen
    pub obeyed : AreObeyedUpTo (closing_position (told finished.journal))

  -- the channel was destroyed once
  abbrev pub IsDestroyedOnce : Type 0
  IsDestroyedOnce = count_by (λ entry. is_destroy entry.what) (told finished.journal) ≡ 1
