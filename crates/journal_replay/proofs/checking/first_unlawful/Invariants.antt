use Rattle.channel_table.specs.Tokens.{seen}
use Rattle.journal_replay.specs.Kept.{IsKept}
use Rattle.journal_replay.proofs.CheckLemmas.{IsAt}
use Rattle.journal_replay.proofs.checking.first_unlawful.Given as goal

-- the entries before this index were made once more
abbrev pub invariant-loop-index : goal.invariant-loop-index
invariant-loop-index l = record {
  at : IsAt l.initial.replay.table.setting l.journal l.index (seen l.replay.table);
  kept : IsKept l.replay;
}
