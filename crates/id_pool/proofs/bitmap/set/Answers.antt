use Rattle.std.proofs.Common.{◌∙◌}
use Rattle.std.proofs.lemmas.Grind.{get_or_default_zero}
use Rattle.id_pool.proofs.BitmapLemmas.{flag_set}
use Rattle.id_pool.proofs.bitmap.set.Goals as goal

pub returns : goal.returns
returns c = rw (c.index_mut.ensures.value ∙ get_or_default_zero _ _ _ c.requires) (flag_set c.args.words.now.items c.args.place c.requires)
