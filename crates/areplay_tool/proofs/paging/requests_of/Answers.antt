use Rattle.std.proofs.Common.{◌∙◌}
use Rattle.areplay_tool.proofs.PageLemmas.{requests_more}
use Rattle.areplay_tool.proofs.paging.requests_of.Goals as goal

pub loop-index-preserved : goal.loop-index-preserved
loop-index-preserved c = c.in_ok-add_request.ensures ∙ requests_more c.args.journal.now c.loop-index.index c.index-journal-index.result c.loop-index.numbers.items c.loop-index-test.true c.loop-index.invariant
