-- When a run comes to its page.
use Rattle.std.specs.Prelude.{List, ℕ, ◌*◌, ◌+◌, ◌≡◌, ◌≤◌, ◌⊎◌}
use Rattle.chan_types.specs.declared.journal.Entry.{Entry}
use Rattle.net_world.specs.declared.log.WorldCall.{WorldCall}
use Rattle.channel_model.specs.Setting.{Setting}
use Rattle.channel_model.specs.Turn.{received_in}
use Rattle.channel_progress.specs.Allowed.{attempts_allowed}
use Rattle.channel_progress.specs.Waking.{NoWaitFailed, WakesInTime}
use Rattle.tool_line.specs.Outside.{GrowsBy, OutputTold}
use Rattle.tool_line.specs.Words.{Text}
use Rattle.acache_tool.specs.Parts.{Part, names_of, page}

-- a run of so many names is given turns enough, two for each attempt that its requests may spend, one for each item that was received, and four for each name, over a network that wakes in time and whose waits don't fail
pub record IsGivenTime (setting : Setting) (turns names : ℕ) (journal : List Entry) (calls : List WorldCall) : Type 0 where
  pub enough : 2 * attempts_allowed setting journal + received_in calls + 4 * names ≤ turns
  pub wakes : WakesInTime calls
  pub waited : NoWaitFailed calls

-- the whole page was put, with a part for each of the names, and exit status 0 or 1; or memory was wanting, with 5
abbrev pub IsComplete : List Text → List Part → ℕ → OutputTold → OutputTold → Type 0
IsComplete names parts status before after =
    (((status ≡ 0) ⊎ (status ≡ 1)) × (names_of parts ≡ names) × GrowsBy before.bytes after.bytes (page parts)) ⊎ (status ≡ 5)
