use Rattle.std.proofs.Common.{◌≡◌}
use Rattle.channel_model.specs.Completion.{occurrences, taken}
use Rattle.channel_model.specs.Journal.{past_of}
use Rattle.channel_table.specs.Tokens.{seen}
use Rattle.journal_replay.specs.Kept.{IsKept}
use Rattle.journal_replay.proofs.CheckLemmas.{IsAt}
use Rattle.journal_replay.proofs.fates.replayed_answer.Given as goal

-- the entries before this index were made once more, and none took the request
abbrev pub invariant-loop-index : goal.invariant-loop-index
invariant-loop-index l = record {
  at : IsAt l.initial.replay.table.setting l.journal l.index (seen l.replay.table);
  kept : IsKept l.replay;
  untaken : occurrences l.number (taken (past_of l.replay.table.journal)) ≡ 0;
}
