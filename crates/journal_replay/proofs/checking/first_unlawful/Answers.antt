use Rattle.std.proofs.Common.{arith, length, ◌<◌}
use Rattle.channel_table.specs.Tokens.{seen}
use Rattle.journal_replay.proofs.CheckLemmas.{at_fault, at_next, unlawful_checked}
use Rattle.journal_replay.proofs.FollowLemmas.{not_allowed}
use Rattle.journal_replay.proofs.checking.first_unlawful.Goals as goal

pub returns-then-not-branch-clause-first : goal.returns-then-not-branch-clause-first
returns-then-not-branch-clause-first c =
    let inside : c.loop-index.index < length c.args.journal.now = omega (arith, c.loop-index-test.true, c.loop-index.auto.index-end) in
    at_fault _ c.args.journal.now c.loop-index.index c.index-journal-index.result inside (seen c.loop-index.replay.table) c.loop-index.invariant.at
    (not_allowed _ _ _ _ c.in_ok-follow.ensures.follows c.if-not-branch.true)

pub returns-then-not-branch-clause-lawful : goal.returns-then-not-branch-clause-lawful
returns-then-not-branch-clause-lawful c = unlawful_checked _ c.args.journal.now c.loop-index.index (returns-then-not-branch-clause-first c)

pub loop-index-preserved : goal.loop-index-preserved
loop-index-preserved c =
    let inside : c.loop-index.index < length c.args.journal.now = omega (arith, c.loop-index-test.true, c.loop-index.auto.index-end) in
    record {
      at = at_next _ c.args.journal.now c.loop-index.index c.index-journal-index.result inside (seen c.loop-index.replay.table) c.loop-index.invariant.at (seen c.follow.new.self.table)
          (c.in_ok-follow.ensures.follows.made c.if-not-branch.false);
      kept = c.in_ok-follow.ensures.kept c.if-not-branch.false;
    }
