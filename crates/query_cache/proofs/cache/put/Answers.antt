use Rattle.std.proofs.Common.{refl, ap, sym, subst, ◌∙◌}
use Rattle.query_cache.specs.Key.{AreByKey, shown}
use Rattle.query_cache.proofs.KeyLemmas.{shown_put, put_by_key}
use Rattle.query_cache.proofs.cache.put.Goals as goal

pub returns : goal.returns
returns c = record {
  by_key = subst (λ h. AreByKey h.entries) (sym c.in_ok-put.ensures.entries) (put_by_key c.args.entry.asked c.args.key c.requires.key c.args.kept.now c.requires.by_key c.len-count.ensures.valid c.args.entry refl);
  ok = λ most. ap (shown most) c.in_ok-put.ensures.entries ∙ shown_put c.args.entry.asked c.args.key c.requires.key c.args.kept.now c.requires.by_key c.len-count.ensures.valid c.args.entry refl most;
  err = tt;
}
