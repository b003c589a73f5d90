-- Runs that read the clock beside their turns too, as a program does that asks at which moment it is.
use Rattle.std.specs.Prelude.{IsTrue, List, length, not, ℕ, ◌==◌}
use Rattle.chan_types.specs.declared.journal.Entry.{Entry}
use Rattle.net_world.specs.declared.log.WorldCall.{WorldCall}
use Rattle.channel_model.specs.Completion.{pending}
use Rattle.channel_model.specs.Course.{IsCourse}
use Rattle.channel_model.specs.Endings.{somewhere_behind}
use Rattle.channel_model.specs.Setting.{Setting}

-- all turns were made by the seat, the clock was read so often beside them, and a request was pending at a position behind the last turn
pub record IsStalledBeside (setting : Setting) (seat slice turns asides : ℕ) (journal : List Entry) (log : List WorldCall) : Type 0 where
  pub course : IsCourse setting seat slice journal log turns asides
  pub left_pending : IsTrue (somewhere_behind (λ past. not (length (pending setting past) == 0)) course.first course.rounds)
