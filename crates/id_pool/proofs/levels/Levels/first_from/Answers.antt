use Rattle.id_pool.specs.Bitmap.{flag}
use Rattle.id_pool.proofs.LevelsLemmas.{climbs_none, climbs_some}
use Rattle.id_pool.proofs.levels.Levels.first_from.Goals as goal

-- no word above has a flag
pub returns-in_err-word : goal.returns-in_err-word
returns-in_err-word c =
    let levels = c.requires.levels in
    rw c.from_residual.ensures (climbs_none (flag c.args.self.now.words.items) c.args.self.now.flags.items 1024 levels.len levels.sums c.args.from
    (rw c.deref.ensures.value at c.in_default.ensures) (rw c.deref-2.ensures.value at c.in_err-word.ensures))

pub returns : goal.returns
returns c =
    let levels = c.requires.levels in
    climbs_some (flag c.args.self.now.words.items) c.args.self.now.flags.items 1024 levels.len levels.sums c.args.from _ _
    (rw c.deref.ensures.value at c.in_default.ensures) (rw c.deref-2.ensures.value at c.in_ok-word.ensures) (rw c.deref-3.ensures.value at c.first_in.ensures)
