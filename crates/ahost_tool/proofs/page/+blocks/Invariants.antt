use Rattle.std.proofs.Common.{◌≡◌, ◌++◌, ◌+◌, ◌-◌, ◌*◌, take}
use Rattle.std.specs.List.{flat_map}
use Rattle.ahost_tool.specs.Told.{as_told, request_block}
use Rattle.ahost_tool.proofs.page.+blocks.Given as goal

abbrev pub decreases-put_blocks : goal.decreases-put_blocks
decreases-put_blocks l = 2 * l.most

abbrev pub decreases-put_block : goal.decreases-put_block
decreases-put_block l = 2 * l.most + 1

-- the blocks of the requests so far were printed
abbrev pub invariant-put_blocks-loop-request : goal.invariant-put_blocks-loop-request
invariant-put_blocks-loop-request l =
    l.text.items ≡ l.fn.text.items
    ++ flat_map (λ request. request_block l.fn.told.entries.now l.fn.told.calls.now (l.fn.most - 1) l.fn.depth (as_told request)) (take l.request-index l.request-items)
