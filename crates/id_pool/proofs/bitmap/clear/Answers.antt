use Rattle.std.proofs.Common.{◌∙◌}
use Rattle.std.proofs.lemmas.Grind.{get_or_default_zero}
use Rattle.id_pool.proofs.BitmapLemmas.{flag_cleared}
use Rattle.id_pool.proofs.bitmap.clear.Goals as goal

pub returns-clause-changes : goal.returns-clause-changes
returns-clause-changes c = rw (c.index_mut.ensures.value ∙ get_or_default_zero _ _ _ c.requires) (flag_cleared c.args.words.now.items c.args.place c.requires)
