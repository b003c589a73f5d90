use Rattle.channel_table.proofs.Base.{List, arith, ap, length, ◌∙◌, ◌<◌, row_set, Row}
use Rattle.std.proofs.Common.{slice_set}
use Rattle.std.proofs.lemmas.List.Edits.{map_over_more}
use Rattle.channel_table.proofs.table.leaving.set_rows.Goals as goal

pub loop-index-preserved : goal.loop-index-preserved
loop-index-preserved g c =
    let rows : List (Row g.row.T.Denot) = c.loop-index.rows.items in
    let inside : c.loop-index.index < length c.args.rows.now.items = omega (arith, c.loop-index-test.true, c.len-index-end.ensures) in (
      ap (slice_set rows c.loop-index.index) c.set_held.ensures
          ∙ map_over_more (row_set c.args.list.now) c.args.rows.now.items rows c.loop-index.index c.index_mut.result.now inside c.loop-index.invariant.0 c.index_mut.ensures.value,
      c.loop-index.invariant.1,
    )
