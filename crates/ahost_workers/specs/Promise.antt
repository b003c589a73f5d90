-- What a run with workers promises: what one without promises, over one journal that several threads made.
use Rattle.std.specs.List.{AllByRecursion}
use Rattle.std.specs.Prelude.{Some, [], count_by, map, ℕ, ◌≡◌, ◌≢◌, ◌⊎◌}
use mathlib.Core.List.{IsPrefix}
use Rattle.channel_model.specs.Commands.{ObeysOrders, accepted_for, closing_position, past_at}
use Rattle.channel_model.specs.Completion.{fate, occurrences, requests}
use Rattle.channel_model.specs.Journal.{is_destroy, past_of}
use Rattle.channel_model.specs.Lawful.{IsLawful}
use Rattle.channel_model.specs.Setting.{Setting}
use Rattle.channel_progress.specs.Waking.{NoWaitFailed}
use Rattle.net_world.specs.Cause.{Rose}
use Rattle.net_world.specs.Logs.{LogGets}
use Rattle.resolv_options.specs.Values.{OptionValues}
use Rattle.run_end.specs.Ends.{AreGood, IsPageEnd, IsRunEnd}
use Rattle.run_end.specs.declared.ended.Ended.{Ended}
use Rattle.shared_session.specs.Seats.{AreSeated, AsksFirst, seats_for}
use Rattle.tool_line.specs.Outside.{Outside, OutputTold}
use Rattle.tool_line.specs.Put.{IsPut}
use Rattle.tool_line.specs.declared.ending.Exit.{Exit}
use Rattle.tool_line.specs.declared.ending.Exit.TheVariants.{Failure, OutOfMemory, Success, WaitFault}
use Rattle.turner_laws.specs.Traffic.{IsTrafficBeside}
use Rattle.worker_session.specs.declared.coming.Coming.{Coming}
use Rattle.ahost_tool.specs.Asked.{Asked}
use Rattle.ahost_tool.specs.Page.{text_at}
use Rattle.ahost_tool.specs.Promise.{IsComplete}
use Rattle.owner_session.specs.Promise.{last_at}
use Rattle.ahost_tool.specs.declared.reporting.Report.{Report}
use Rattle.run_end.specs.Left.{IsOver}
use Rattle.ahost_workers.specs.Ends.{ComesAs}

-- the whole report of a channel of these options was put, with exit status 0 or 1; or memory was wanting, with 5; or all turns were made while requests were pending, with 7
abbrev pub ComesToEnd : Report → OptionValues → Ended → OutputTold → OutputTold → Type 0
ComesToEnd report options ended before after = IsComplete report options ended before after ⊎ (ended.status ≡ 7)

-- what a run promises that asks this of a channel of this setting, with so many workers
pub record PromiseWith (workers : ℕ) (asked : Asked) (setting : Setting) (turns : ℕ) (ended : Ended) (before after : Outside) : Type 0 where
  -- How the run came to its end, before its text was put: the text is chosen by that, and the exit status.
  pub end : Exit
  pub ends : IsRunEnd end
  -- One journal orders what happened: each of its entries may stand where it stands.
  pub lawful : IsLawful setting ended.journal
  -- Each entry is of one of the run's seats: its own two, and one for each worker. On nobody's command the first alone asks, makes turns, sets servers and destroys the channel, and these two alone take requests, and none cancels. On a callback's command requests are asked, cancelled or the channel is destroyed, and nothing else.
  pub seated : AreSeated workers ended.journal
  -- The requests were accepted that were asked, in order, each with the script of its callback, unless memory was wanting; and no other but on a callback's command.
  pub asked_all : end ≢ OutOfMemory → accepted_for 0 ended.journal ≡ asked.askings
  pub asked_at_most : IsPrefix (accepted_for 0 ended.journal) asked.askings
  -- The first seat accepted them before it did anything else.
  pub asked_first : AsksFirst ended.journal
  -- What the callbacks of the taken requests command was performed, on their command and by the orders, each callback's commands by one seat; where the text is the report, none of it behind the closing Destroy. Requests are lost only where memory was wanting.
  pub lost : ℕ
  pub obeyed : ObeysOrders setting ended.journal (seats_for workers) asked.orders (last_at end ended.journal) lost
  pub none_lost : end ≢ OutOfMemory → lost ≡ 0
  -- The callback of each accepted request was called once, with its fate.
  pub called_once : (request : ℕ) → occurrences request (map (λ answer. answer.number) ended.calls) ≡ occurrences request (requests (past_of ended.journal))
  pub called_with_fates : AllByRecursion (λ answer. fate setting answer.number (past_of ended.journal) ≡ Some answer) ended.calls
  -- Nothing is pending and nothing ready at the journal's end: what was accepted has completed, and was taken.
  pub all_taken : IsOver setting (past_of ended.journal)
  -- A channel that was made was destroyed once.
  pub destroyed : ended.journal ≢ [] → count_by (λ entry. is_destroy entry.what) ended.journal ≡ 1
  -- All requests ended well, or one otherwise.
  pub success : end ≡ Success → AreGood ended.calls
  pub failure : end ≡ Failure → ¬ AreGood ended.calls
  -- Where the text is the report, or a beginning of it, nothing was cut short: nothing was pending and nothing ready at the closing Destroy.
  pub finished : IsPageEnd end → IsOver setting (past_at ended.journal (closing_position ended.journal))
  -- A run ends for a wait only where a wait of the network failed in it.
  pub wait_fault : end ≡ WaitFault → Rose before.network.wait_faults after.network.wait_faults
  -- Where the network tells its calls, those of this run are its servers, turns and waits, made through the first seat whoever else made entries between them, and the journal notes what they tell. The later servers were set behind the first turn and before the second, once. A run that ends as stalled has made all its turns, with a request pending behind the last.
  pub coming : Coming
  pub comes : ComesAs end coming
  pub traffic : LogGets (IsTrafficBeside setting 0 asked.later turns coming ended.journal) before.network.log after.network.log
  -- No number of turns is promised within which a run comes to its report. Where no wait failed, by the network's count or by its calls, and the output didn't fail, it comes to it, or it stalls, or memory is wanting.
  pub completes : ¬ Rose before.network.wait_faults after.network.wait_faults → ¬ Rose before.output.faults after.output.faults → ComesToEnd asked.report setting.options ended before.output after.output
  pub completes_told : LogGets (λ calls. NoWaitFailed calls → ¬ Rose before.output.faults after.output.faults → ComesToEnd asked.report setting.options ended before.output after.output) before.network.log after.network.log
  -- The text was put, once, and the exit status is that of the end; 4 only where the output failed in this run, and 5 for want of memory.
  pub put : IsPut (text_at asked.report setting.options ended.journal ended.calls end) end ended.status before.output after.output
