use Rattle.std.proofs.Common.{◌≡◌, ℕ, ◌+◌, ◌*◌, refl, ap, sym, ◌∙◌}
use Rattle.std.specs.Prelude.{min}
use Rattle.query_cache.specs.Cache.{used, kept_from}
use Rattle.query_cache.specs.Key.{shown}
use Rattle.query_cache.specs.Lifetime.{lifetime}
use Rattle.query_cache.proofs.cache.QueryCache.keep.Goals as goal

pub returns-clause-after : goal.returns-clause-after
returns-clause-after c =
    let most = c.self.inside.most in
    let name = c.in_ok-copy.ensures in
    let end : c.args.at + 1000 * c.min.result ≡ c.args.at + 1000 * min (lifetime c.args.answer) most = ap (λ n. c.args.at + 1000 * n) (c.min.ensures ∙ ap (λ s. min s most) c.in_ok-seconds.ensures) in
    c.in_ok-put.ensures.ok most
    ∙ (λ i. used (record { asked = record { name = name i; kind = c.args.asked.now.kind; class = c.args.asked.now.class }; answer = c.args.answer; end = end i }) (shown most c.self.inside.kept))
    ∙ ap (λ v. used (kept_from v.most c.args.asked.now c.args.answer c.args.at) v) c.self.view_is
