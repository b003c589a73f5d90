-- What was done through the places of a channel that was served with workers.
use Rattle.std.specs.List.{AllByRecursion}
use Rattle.std.specs.Prelude.{List, [], map, ◌≡◌}
use Rattle.chan_types.specs.declared.journal.Entry.{Entry}
use Rattle.chan_types.specs.declared.orders.Orders.{Orders}
use Rattle.channel_model.specs.Setting.{Setting}
use Rattle.pass_laws.specs.Courses.{Course, DoesThrough, HasItsScript}
use Rattle.seat_laws.specs.Shifts.{Work, called_for, handed_over, tellings}
use Rattle.shared_channel.specs.Passes.{PassView}

-- a worker called callbacks of requests that others took, each with the script with which its request was accepted, and took none
pub record IsWorkersCourse (orders : Orders) (setting : Setting) (journal : List Entry) (course : Course) : Type 0 where
  pub does : DoesThrough orders course.works course.before course.after
  pub took_none : handed_over course.works ≡ []
  pub scripts : AllByRecursion (HasItsScript setting journal) (tellings course.works)

-- the owner called no callback of a request that others took, and each worker did that alone
pub record AreServed (orders : Orders) (setting : Setting) (journal : List Entry) (owner : PassView) (workers : List PassView) (owner_new : PassView) (workers_new : List PassView) : Type 0 where
  pub works : List Work
  pub does : DoesThrough orders works owner owner_new
  pub for_none : called_for works ≡ []
  pub scripts : AllByRecursion (HasItsScript setting journal) (tellings works)
  pub courses : List Course
  pub befores : map (λ course. course.before) courses ≡ workers
  pub afters : map (λ course. course.after) courses ≡ workers_new
  pub each : AllByRecursion (IsWorkersCourse orders setting journal) courses
