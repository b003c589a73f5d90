use Rattle.std.proofs.Common.{[], ◌∷◌, ◌++◌, ◌∙◌, ap}
use Rattle.test_nameserver.proofs.IndexLemmas.{index_more, taken_items}
use Rattle.test_nameserver.proofs.zone.add_index.Goals as goal

-- what was there at the key, and the index behind it
pub returns : goal.returns
returns c =
    let taken = taken_items c.args.by_name.now c.args.key.items c.as_slice.result.now c.remove.result c.new.result c.unwrap_or-indexes.result c.as_slice.ensures.value c.remove.ensures.value c.new.ensures.items c.unwrap_or-indexes.ensures in
    index_more c.args.by_name.now c.remove.new.self c.insert.new.self c.args.key.items c.as_slice.result.now c.args.index c.push.new.self
    c.as_slice.ensures.value c.remove.ensures.updates c.in_ok-insert.ensures.updates (c.in_ok-push.ensures.items ∙ ap (λ l. l ++ c.args.index ∷ []) taken)
