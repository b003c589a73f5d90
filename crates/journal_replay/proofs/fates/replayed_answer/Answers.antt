use Rattle.std.proofs.Common.{arith, length, ◌<◌, ◌≤◌}
use Rattle.channel_table.specs.Tokens.{seen}
use Rattle.journal_replay.proofs.CheckLemmas.{at_next, lawful_at}
use Rattle.journal_replay.proofs.FateLemmas.{found_at, found_at_end, untaken_next}
use Rattle.journal_replay.proofs.fates.replayed_answer.Goals as goal

pub next-requires-clause-allowed : goal.next-requires-clause-allowed
next-requires-clause-allowed c =
    let inside : c.loop-index.index < length c.args.journal.now = omega (arith, c.loop-index-test.true, c.loop-index.auto.index-end) in
    lawful_at _ c.args.journal.now c.loop-index.index c.index-journal-index.result inside (seen c.loop-index.replay.table) c.loop-index.invariant.at c.requires.lawful

pub returns-in-Some : goal.returns-in-Some
returns-in-Some c =
    found_at _ c.args.journal.now c.loop-index.index (seen c.loop-index.replay.table) c.args.number c.in-Some.answer c.loop-index.invariant.at (rw c.in-Some.is at c.in_ok-answer.ensures.passes)

pub loop-index-preserved : goal.loop-index-preserved
loop-index-preserved c =
    let inside : c.loop-index.index < length c.args.journal.now = omega (arith, c.loop-index-test.true, c.loop-index.auto.index-end) in
    let passes = rw c.in-None.is at c.in_ok-answer.ensures.passes in
    record {
      at = at_next _ c.args.journal.now c.loop-index.index c.index-journal-index.result inside (seen c.loop-index.replay.table) c.loop-index.invariant.at (seen c.next.new.replay.table) passes.0;
      kept = c.in_ok-answer.ensures.kept c.in-None.is;
      untaken = untaken_next c.args.number _ _ _ passes.0 passes.1 c.loop-index.invariant.untaken;
    }

pub returns : goal.returns
returns c =
    let all : length c.args.journal.now ≤ c.loop-index.index = omega (arith, c.loop-index-test.false, c.loop-index.auto.index-end) in
    found_at_end _ c.args.journal.now c.loop-index.index (seen c.loop-index.replay.table) c.args.number c.ready_answer.result c.loop-index.invariant.at all c.ready_answer.ensures
