use Rattle.std.proofs.Common.{arith}
use Rattle.id_pool.specs.Bitmap.{flag}
use Rattle.id_pool.proofs.LevelsLemmas.{sums_set, upper_set}
use Rattle.id_pool.proofs.levels.Levels.set.Goals as goal

-- the word of the flag isn't 0, and neither is the word's
pub returns-clause-levels : goal.returns-clause-levels
returns-clause-levels c =
    let old = c.requires.levels in
    let flags = c.set.ensures in
    let words = c.set-2.ensures in
    record {
      len = omega (arith, flags.len, old.len);
      sums = sums_set (flag c.args.self.now.words.items) (flag c.set-2.new.words.items) _ _ _ old.sums flags words.own (λ k _ other. words.others k other);
      upper = upper_set _ _ _ _ old.upper (let within = c.requires.within in omega arith) words;
    }
