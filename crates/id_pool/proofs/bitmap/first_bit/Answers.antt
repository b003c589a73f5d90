use Rattle.id_pool.proofs.BitmapLemmas.{no_bit, first_bit}
use Rattle.std.proofs.Common.{rules}
use Rattle.id_pool.proofs.bitmap.first_bit.Goals as goal

pub returns-then-rest-eq0 : goal.returns-then-rest-eq0
returns-then-rest-eq0 c = no_bit _ _ c.if-rest-eq0.true

pub returns : goal.returns
returns c = first_bit _ _ (search rules) c.if-rest-eq0.false
