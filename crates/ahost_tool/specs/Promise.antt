-- What a run promises: one journal orders what happened in its channel, and what it asked, sent, called and put follows from that journal.
use Rattle.std.specs.List.{AllByRecursion, list_all}
use Rattle.std.specs.Prelude.{IsTrue, Some, [], count_by, map, ℕ, ◌≡◌, ◌≢◌, ◌⊎◌}
use mathlib.Core.List.{IsPrefix}
use Rattle.net_world.specs.Cause.{Rose}
use Rattle.channel_model.specs.Commands.{ObeysOrders, accepted_for, closing_position, past_at}
use Rattle.channel_model.specs.Completion.{fate, occurrences, pending, requests}
use Rattle.channel_model.specs.Journal.{is_destroy, past_of}
use Rattle.channel_model.specs.Lawful.{IsLawful}
use Rattle.channel_model.specs.Setting.{Setting}
use Rattle.net_world.specs.Logs.{LogGets}
use Rattle.resolv_options.specs.Values.{OptionValues}
use Rattle.tool_line.specs.Outside.{GrowsBy, Outside, OutputTold}
use Rattle.tool_line.specs.Put.{IsPut}
use Rattle.tool_line.specs.declared.ending.Exit.{Exit}
use Rattle.tool_line.specs.declared.ending.Exit.TheVariants.{Failure, OutOfMemory, Stalled, Success, WaitFault}
use Rattle.run_end.specs.Left.{IsOver}
use Rattle.ahost_tool.specs.Asked.{Asked}
use Rattle.run_end.specs.Ends.{AreGood, IsPageEnd, IsRunEnd}
use Rattle.owner_session.specs.Kinds.{is_ruled}
use Rattle.ahost_tool.specs.Page.{report_of, text_at}
use Rattle.owner_session.specs.Promise.{IsGivenTime, IsTraffic, last_at}
use Rattle.owner_session.specs.Session.{AsksFirst, SetsAtMost}
use Rattle.run_end.specs.declared.ended.Ended.{Ended}
use Rattle.ahost_tool.specs.declared.reporting.Report.{Report}

-- the whole report of a channel of these options was put, with exit status 0 or 1; or memory was wanting, with 5
abbrev pub IsComplete : Report → OptionValues → Ended → OutputTold → OutputTold → Type 0
IsComplete report options ended before after =
    (((ended.status ≡ 0) ⊎ (ended.status ≡ 1)) × GrowsBy before.bytes after.bytes (report_of report options ended.journal ended.calls)) ⊎ (ended.status ≡ 5)

-- what a run promises that asks this of a channel of this setting
pub record Promise (asked : Asked) (setting : Setting) (turns : ℕ) (ended : Ended) (before after : Outside) : Type 0 where
  -- How the run came to its end, before its text was put: the text is chosen by that, and the exit status.
  pub end : Exit
  pub ends : IsRunEnd end
  -- One journal orders what happened: each of its entries may stand where it stands.
  pub lawful : IsLawful setting ended.journal
  -- All entries are of the channel's one seat, and none cancels that no callback commanded.
  pub ruled : IsTrue (list_all is_ruled ended.journal)
  -- The requests were accepted that were asked, in order, each with the script of its callback, unless memory was wanting; and no other but on a callback's command.
  pub asked_all : end ≢ OutOfMemory → accepted_for 0 ended.journal ≡ asked.askings
  pub asked_at_most : IsPrefix (accepted_for 0 ended.journal) asked.askings
  -- They were accepted before anything else was done.
  pub asked_first : AsksFirst ended.journal
  -- What the callbacks of the taken requests command was performed, on their command and by the orders; where the text is the report, none of it behind the closing Destroy. Requests are lost only where memory was wanting.
  pub lost : ℕ
  pub obeyed : ObeysOrders setting ended.journal 1 asked.orders (last_at end ended.journal) lost
  pub none_lost : end ≢ OutOfMemory → lost ≡ 0
  -- The callback of each accepted request was called once, with its fate.
  pub called_once : (request : ℕ) → occurrences request (map (λ answer. answer.number) ended.calls) ≡ occurrences request (requests (past_of ended.journal))
  pub called_with_fates : AllByRecursion (λ answer. fate setting answer.number (past_of ended.journal) ≡ Some answer) ended.calls
  -- Nothing is pending and nothing ready at the journal's end: what was accepted has completed, and was taken.
  pub all_taken : IsOver setting (past_of ended.journal)
  -- A channel that was made was destroyed once.
  pub destroyed : ended.journal ≢ [] → count_by (λ entry. is_destroy entry.what) ended.journal ≡ 1
  -- All requests ended well, or one otherwise.
  pub success : end ≡ Success → AreGood ended.calls
  pub failure : end ≡ Failure → ¬ AreGood ended.calls
  -- Where the text is the report, or a beginning of it, nothing was cut short: nothing was pending and nothing ready at the closing Destroy.
  pub finished : IsPageEnd end → IsOver setting (past_at ended.journal (closing_position ended.journal))
  -- A run ends for a wait only where a wait of the network failed in it.
  pub wait_fault : end ≡ WaitFault → Rose before.network.wait_faults after.network.wait_faults
  -- It ends as stalled only where a request was pending at the closing Destroy, and all turns were made, which the network's calls tell.
  pub stalled : end ≡ Stalled → pending setting (past_at ended.journal (closing_position ended.journal)) ≢ []
  -- Servers were set at most once, on nobody's command, and then they are the later ones.
  pub sets : SetsAtMost setting asked.later ended.journal
  -- Where the network tells its calls, those of this run are its servers, turns and waits, and the journal notes what they tell.
  pub traffic : LogGets (IsTraffic setting asked.later turns end ended.journal) before.network.log after.network.log
  -- A run that is given time comes to its report, where the output doesn't fail in it, unless memory is wanting.
  pub completes : LogGets (λ calls. IsGivenTime setting turns ended.journal calls → ¬ Rose before.output.faults after.output.faults → IsComplete asked.report setting.options ended before.output after.output) before.network.log after.network.log
  -- The text was put, once, and the exit status is that of the end; 4 only where the output failed in this run, and 5 for want of memory.
  pub put : IsPut (text_at asked.report setting.options ended.journal ended.calls end) end ended.status before.output after.output
