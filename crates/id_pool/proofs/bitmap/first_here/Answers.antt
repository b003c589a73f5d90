use Rattle.std.proofs.Common.{refl}
use Rattle.id_pool.proofs.BitmapLemmas.{none_here, first_here}
use Rattle.id_pool.proofs.bitmap.first_here.Goals as goal

-- the word has no bit from there on
pub returns-in_err-bit : goal.returns-in_err-bit
returns-in_err-bit c = rw c.from_residual.ensures (none_here c.args.words.now c.args.from c.in_err-bit.ensures)

pub returns : goal.returns
returns c = first_here c.args.words.now c.args.from _ _ refl c.in_ok-bit.ensures
