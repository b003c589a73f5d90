-- How many turns a run makes at most that stalled, by the attempts that its requests may spend.
use Rattle.std.proofs.Common.{◌≡◌, ℕ, ◌+◌, ◌*◌, ◌≤◌, List, ◌++◌, arith}
use Rattle.chan_types.specs.declared.journal.Entry.{Entry}
use Rattle.net_world.specs.declared.log.WorldCall.{WorldCall}
use Rattle.channel_model.specs.Endings.{IsStalledBehind}
use Rattle.channel_model.specs.Setting.{Setting}
use Rattle.channel_model.specs.Turn.{received_in}
use Rattle.channel_progress.specs.Allowed.{attempts_allowed}
use Rattle.channel_progress.specs.PlainRun.{IsPlainRun}
use Rattle.channel_progress.specs.Prompted.{unprompted_in}
use Rattle.channel_progress.proofs.Theorems.{allowed_grows, stalled_any}
use Rattle.owner_laws.specs.Sessions.{longest_slice}

-- two turns for each attempt that the requests may spend, and one for each item that was received
pub stalled_few : (setting : Setting) (turns : ℕ) (journal more : List Entry) (log : List WorldCall) → IsPlainRun setting 0 journal log → (stalled : IsStalledBehind setting 0 longest_slice turns journal log) →
    unprompted_in setting stalled.course.rounds ≡ 0 → turns ≤ 2 * attempts_allowed setting (journal ++ more) + received_in log
stalled_few setting turns journal more log run stalled none = omega (arith, stalled_any setting 0 turns journal log run stalled, none, allowed_grows setting journal more)
