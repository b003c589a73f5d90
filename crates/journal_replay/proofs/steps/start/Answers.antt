use Rattle.std.proofs.Common.{arith}
use Rattle.journal_replay.proofs.StartLemmas.{begun_follows}
use Rattle.journal_replay.proofs.steps.start.Goals as goal

pub returns : goal.returns
returns c =
    begun_follows _ _ c.args.attempt c.args.draws c.args.word c.unwrap_or-bits.result c.in_ok-begun.begun c.is_begun.result c.requires.draws c.requires.word (omega (arith, c.ranges.word.fits)) c.unwrap_or-bits.ensures
    (rw c.in_ok-begun.was at c.start.ensures.done) c.is_begun.ensures
