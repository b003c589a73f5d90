use Rattle.std.proofs.Common.{arith}
use Rattle.id_pool.specs.Bitmap.{bit_is_set}
use Rattle.id_pool.proofs.LevelsLemmas.{climbs_none, climbs_some, first_narrowed}
use Rattle.id_pool.proofs.levels.first_word.Goals as goal

-- no block above has a word
pub returns-in_err-block : goal.returns-in_err-block
returns-in_err-block c =
    let upper = c.requires.upper in
    rw c.from_residual.ensures (climbs_none (bit_is_set c.args.blocks) c.args.words.now 16 upper.len upper.sums c.args.from
    c.in_default.ensures (λ k low high. c.in_err-block.ensures k low (omega arith)))

pub returns : goal.returns
returns c =
    let upper = c.requires.upper in
    climbs_some (bit_is_set c.args.blocks) c.args.words.now 16 upper.len upper.sums c.args.from _ _ c.in_default.ensures
    (first_narrowed _ _ 16 64 _ upper.beyond c.in_ok-block.ensures) c.first_in.ensures
