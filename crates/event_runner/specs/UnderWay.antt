-- A run under way: where it stands between two calls of its runner, and how far it has come behind its last turn.
use Rattle.std.specs.Prelude.{Bool, IsTrue, List, None, Option, is_none, map, not, true, ℕ, ◌&&◌, ◌≡◌, ◌≤◌}
use Rattle.net_world.specs.Logs.{LogGets}
use Rattle.net_world.specs.declared.log.WorldCall.{WorldCall}
use Rattle.channel_model.specs.Course.{IsCourse, IsCourseSoFar, Round, delivers_then, goes_on, has_none_of, rests_there, skips, standing_after}
use Rattle.channel_model.specs.Known.{Known}
use Rattle.channel_model.specs.Setting.{Setting}
use Rattle.channel_model.specs.Stretch.{beginning, behind}
use Rattle.resolv_options.specs.Lasts.{last_or}
use Rattle.event_runner.specs.Running.{Running, run_of}
use Rattle.event_runner.specs.State.{Holds, IsTurnOwner}

-- how far a run has come behind its last turn
pub data Reach : Type 0 where
  -- the turn was made
  turned : Reach
  -- then nothing was ready any more
  delivered : Reach
  -- then a wait was called for
  awaiting : Reach
  -- then it waited, or had no reason to
  rested : Reach
  -- then a request was pending: another turn may follow
  following : Reach

module _ (setting : Setting) (seat slice : ℕ) where
  -- a turn with what stands behind it has come so far; where it has come further than the turn, the seat makes no entry from there on
  abbrev pub has_come : Reach → Round → Bool
  has_come turned round = is_none round.rest
  has_come delivered round = is_none round.rest && delivers_then setting seat slice (λ here later. has_none_of seat later) round
  has_come awaiting round = is_none round.rest && delivers_then setting seat slice (λ here later. not (skips setting here) && has_none_of seat later) round
  has_come rested round = delivers_then setting seat slice (rests_there setting seat slice round.reading round.rest (λ here later. has_none_of seat later)) round
  has_come following round = goes_on setting seat slice round

-- what a desk has seen, and these calls, are a course of so many turns, and the run goes on behind each but the last
pub record IsUnderWay (slice turns asides : ℕ) (reach : Reach) (known : Known) (running : Running) (calls : List WorldCall) : Type 0 where
  pub course : IsCourse known.setting known.seat slice known.seen calls turns asides
  -- the last turn, if there is one, has come so far
  pub come : IsTrue (last_or true (map (has_come known.setting known.seat slice reach) course.rounds))
  -- the runner's reading of the clock is the last turn's, or 0 before the first
  pub reading : last_or 0 (map (λ round. round.reading) course.rounds) ≡ running.reading
  -- what the runner keeps is as the course's end has it
  pub holds : Holds (run_of known running None) (standing_after (behind beginning course.first) course.rounds)

-- the same of a log that is told, with the calls that it got since the run began, where no other seat makes entries of turns
abbrev pub RunsSince : ℕ → ℕ → ℕ → Reach → Known → Running → Option (List WorldCall) → Option (List WorldCall) → Type 0
RunsSince slice turns asides reach known running log_old log_new =
    LogGets (λ calls. IsTurnOwner known → IsUnderWay slice turns asides reach known running calls) log_old log_new

-- the journal that a desk has seen, and these calls, are a course of at most so many turns, or one that was cut short
abbrev pub IsSoFar : ℕ → ℕ → ℕ → Known → List WorldCall → Type 0
IsSoFar slice most asides known calls = (made : ℕ) × (made ≤ most) × IsCourseSoFar known.setting known.seat slice known.seen calls made asides

-- the same of a log that is told since the run began
abbrev pub RanSince : ℕ → ℕ → ℕ → Known → Option (List WorldCall) → Option (List WorldCall) → Type 0
RanSince slice most asides known log_old log_new = LogGets (λ calls. IsTurnOwner known → IsSoFar slice most asides known calls) log_old log_new
