use Rattle.std.proofs.Common.{length}
use Rattle.channel_model.specs.Completion.{ready}
use Rattle.channel_model.specs.Journal.{past_of}
use Rattle.channel_table.specs.Tokens.{seen}
use Rattle.journal_replay.proofs.FateLemmas.{IsPassed}
use Rattle.journal_replay.proofs.fates.ready_answer.Given as goal

-- what was taken so far isn't the request, and its fate is as it was
abbrev pub invariant-loop-ticket : goal.invariant-loop-ticket
invariant-loop-ticket l = IsPassed l.number (seen l.initial.replay.table) (seen l.replay.table)

abbrev pub decreases-loop-ticket : goal.decreases-loop-ticket
decreases-loop-ticket l = length (ready l.replay.table.setting (past_of l.replay.table.journal))
