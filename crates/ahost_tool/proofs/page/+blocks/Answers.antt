use Rattle.std.proofs.Common.{◌∙◌, ap, map}
use Rattle.ahost_tool.specs.Told.{as_told}
use Rattle.ahost_tool.proofs.PageLemmas.{blocks_all, blocks_none}
use Rattle.ahost_tool.proofs.page.+blocks.Goals as goal

pub put_blocks-returns-in_default : goal.put_blocks-returns-in_default
put_blocks-returns-in_default t c =
    blocks_none c.args.told.now.entries.now c.args.told.now.calls.now c.args.most c.args.depth c.args.by c.if-most-eq0.false c.args.text.now.items c.in_default.ensures

pub put_blocks-returns : goal.put_blocks-returns
put_blocks-returns t c =
    blocks_all c.args.told.now.entries.now c.args.told.now.calls.now c.args.most c.args.depth c.args.by c.if-most-eq0.false c.deref-request-items.result.now
    (ap (map as_told) c.deref-request-items.ensures.value ∙ c.in-Some.ensures) c.loop-request.request-index c.args.text.now.items c.loop-request.text.items
    c.loop-request-test.false c.loop-request.invariant
