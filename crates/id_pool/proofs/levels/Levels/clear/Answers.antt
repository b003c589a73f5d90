use Rattle.std.proofs.Common.{sym, ◌∙◌, arith}
use Rattle.std.proofs.lemmas.Bool.{eqb-false}
use Rattle.id_pool.specs.Bitmap.{flag}
use Rattle.id_pool.proofs.LevelsLemmas.{sums_kept}
use Rattle.id_pool.proofs.levels.Levels.clear.Goals as goal

-- the word has other flags
pub returns-else-clear-clause-levels : goal.returns-else-clear-clause-levels
returns-else-clear-clause-levels c =
    let old = c.requires.levels in
    let flags = c.clear.ensures.changes in
    let within = c.requires.within in
    record {
      len = omega (arith, flags.len, old.len);
      sums = sums_kept (flag c.args.self.now.words.items) (flag c.args.self.now.words.items) _ _ _ old.sums flags (omega (arith, old.len)) c.clear.ensures.less
          (eqb-false _ 0 (sym c.clear.ensures.empty ∙ c.if-clear.false));
      upper = old.upper;
    }
