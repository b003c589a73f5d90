use Rattle.id_pool.proofs.BitmapLemmas.{flag_tests}
use Rattle.id_pool.proofs.bitmap.has.Goals as goal

pub returns : goal.returns
returns c = flag_tests c.args.words.now c.args.place
