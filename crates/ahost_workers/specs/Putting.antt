-- How the text of a run with workers is put.
use Rattle.std.specs.Prelude.{List, Result, ℕ, ◌≡◌}
use Rattle.chan_types.specs.declared.answer.Answer.{Answer}
use Rattle.chan_types.specs.declared.journal.Entry.{Entry}
use Rattle.item_list.specs.declared.no_memory.NoMemory.{NoMemory}
use Rattle.resolv_options.specs.Values.{OptionValues}
use Rattle.run_end.specs.declared.ended.Ended.{Ended}
use Rattle.run_end.specs.declared.loop_end.LoopEnd.{LoopEnd}
use Rattle.shared_session.specs.declared.task.SessionEnd.{SessionEnd}
use Rattle.tool_line.specs.Outside.{OutputTold}
use Rattle.tool_line.specs.Put.{IsPut}
use Rattle.tool_line.specs.declared.ending.Exit.{Exit}
use Rattle.owner_session.specs.Ends.{IsEndOf}
use Rattle.ahost_tool.specs.Page.{text_at}
use Rattle.ahost_tool.specs.declared.reporting.Report.{Report}
use Rattle.ahost_workers.specs.Ends.{IsTurnsEnd}

-- the text of a run was put whose session came to this end, with this journal, with so many requests lost and with these answers, in a channel of these options; journal and answers are handed out
pub record PutsReport (options : OptionValues) (report : Report) (end : SessionEnd) (journal : List Entry) (lost : ℕ) (calls : List Answer) (ended : Ended) (before after : OutputTold) : Type 0 where
  -- how its turns ended, and how the run came to its end with that
  pub outcome : Result LoopEnd NoMemory
  pub turns : IsTurnsEnd end outcome
  pub exit : Exit
  pub ends : IsEndOf outcome lost calls exit
  pub put : IsPut (text_at report options journal calls exit) exit ended.status before after
  pub journal_is : ended.journal ≡ journal
  pub calls_are : ended.calls ≡ calls
