use Rattle.std.proofs.Common.{◌∷◌, ◌++◌, [], ◌∙◌, ap}
use Rattle.ahost_tool.specs.Told.{requests_by}
use Rattle.ahost_tool.proofs.PageLemmas.{requests_more}
use Rattle.ahost_tool.proofs.page.told.gather_requests.Goals as goal

pub loop-entry-preserved : goal.loop-entry-preserved
loop-entry-preserved c = λ by.
    c.in_ok-add_request.ensures by ∙ ap (λ requests. requests ++ requests_by by (c.entry-item.result ∷ [])) (c.loop-entry.invariant by)
    ∙ requests_more c.args.entries.now c.loop-entry.entry-index c.entry-item.result c.loop-entry-test.true c.entry-item.is by
