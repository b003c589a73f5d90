-- The runs of which the law speaks.
use Rattle.std.specs.List.{list_all}
use Rattle.std.specs.Prelude.{IsTrue, List, length, ℕ, ◌==◌, ◌≤◌}
use Rattle.chan_types.specs.declared.journal.Entry.{Entry}
use Rattle.net_world.specs.declared.log.WorldCall.{WorldCall}
use Rattle.channel_model.specs.Lawful.{IsLawful}
use Rattle.channel_model.specs.Setting.{Setting}
use Rattle.channel_progress.specs.Waking.{NoWaitFailed, WakesInTime}

-- a run of one seat over a network that wakes in time
pub record IsPlainRun (setting : Setting) (seat : ℕ) (journal : List Entry) (log : List WorldCall) : Type 0 where
  pub lawful : IsLawful setting journal
  -- no other seat made an entry
  pub alone : IsTrue (list_all (λ entry. entry.seat == seat) journal)
  -- the options have a server, and a try of each, as all options within their limits
  pub some_server : 1 ≤ length setting.options.servers
  pub some_try : 1 ≤ setting.options.tries
  -- no wait failed, and each ended in time
  pub waited : NoWaitFailed log
  pub wakes : WakesInTime log
