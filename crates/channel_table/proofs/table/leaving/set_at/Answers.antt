use Rattle.channel_table.proofs.Base.{sym, ap, arith, ◌∙◌, ◌<◌, ◌+◌, ◌++◌, ◌∷◌, length, take, drop, get_or_read, set_split, Row}
use Rattle.channel_table.proofs.EndedRows.{one_more, split_at}
use Rattle.channel_table.proofs.table.leaving.set_at.Goals as goal

pub returns-clause-sets : goal.returns-clause-sets
returns-clause-sets g c =
    let rows = c.args.rows.now.items in
    let row : Row g.row.T.Denot = c.index_mut.result.now in
    let inside : c.args.index < length c.args.rows.now.items = omega (arith, c.requires) in
    record {
      row = row;
      is = λ d. sym (get_or_read rows c.args.index row inside c.index_mut.ensures.value d);
      parts = split_at rows c.args.index row inside c.index_mut.ensures.value;
      becomes =
          set_split rows c.args.index c.set_held.new.held inside
          ∙ ap (λ k. take c.args.index rows ++ c.set_held.new.held ∷ drop k rows) (one_more c.args.index)
          ∙ ap (λ (r : Row g.row.T.Denot). take c.args.index rows ++ r ∷ drop (c.args.index + 1) rows) c.set_held.ensures;
    }
