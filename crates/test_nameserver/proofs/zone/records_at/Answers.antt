use Rattle.std.proofs.Common.{length, rules, ◌∙◌, sym, ◌<◌, get_or}
use Rattle.std.proofs.lemmas.List.{map-append}
use Rattle.test_nameserver.specs.Index.{has_key}
use Rattle.test_nameserver.proofs.IndexLemmas.{next_item, all_items, place_below}
use Rattle.test_nameserver.proofs.zone.records_at.Goals as goal

pub bounds-records-index : goal.bounds-records-index
bounds-records-index c = place_below (has_key c.args.key.now) c.args.indexes.now c.args.records.now c.loop-index.index-index c.requires c.loop-index-test.true

pub offset_bounds-records-index : goal.offset_bounds-records-index
offset_bounds-records-index c =
    let within : get_or c.args.indexes.now c.loop-index.index-index 0 < length c.args.records.now = place_below (has_key c.args.key.now) c.args.indexes.now c.args.records.now c.loop-index.index-index c.requires c.loop-index-test.true in
    search rules

pub loop-index-preserved : goal.loop-index-preserved
loop-index-preserved c =
    let next = next_item (has_key c.args.key.now) c.args.indexes.now c.args.records.now c.loop-index.index-index c.index-records-index.result c.requires c.loop-index-test.true in
    let is = sym c.index-records-index.is in
    let step = rw is at next in
    rw (c.in_ok-push.ensures.items, map-append, c.loop-index.invariant) (sym step)

pub returns : goal.returns
returns c = c.loop-index.invariant ∙ all_items (has_key c.args.key.now) c.args.indexes.now c.args.records.now c.loop-index.index-index c.requires c.loop-index-test.false
