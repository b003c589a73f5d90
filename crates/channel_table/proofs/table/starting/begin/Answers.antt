use Rattle.channel_table.proofs.Base.{sym, ap, subst, arith, ◌∙◌, ◌<◌, ◌+◌, ◌++◌, ◌∷◌, length, take, drop, get_or_read, set_split, IfSome, IsWaiting, lookup_at, Row, Lookup}
use Rattle.channel_table.proofs.EndedRows.{one_more, split_at}
use Rattle.channel_table.proofs.table.starting.begin.Goals as goal

pub begin-requires : goal.begin-requires
begin-requires g c =
    let rows = c.args.rows.now.items in
    let row : Row g.row.T.Denot = c.index_mut.result.now in
    let inside : c.args.index < length c.args.rows.now.items = omega (arith, c.requires.inside) in
    record { waits = subst (λ (r : Row g.row.T.Denot). IfSome (lookup_at c.args.is_second r) (λ (lookup : Lookup). IsWaiting lookup.leg.phase)) (sym (get_or_read rows c.args.index row inside c.index_mut.ensures.value row)) (c.requires.waits row) }

pub returns-clause-begins : goal.returns-clause-begins
returns-clause-begins g c =
    let rows = c.args.rows.now.items in
    let row : Row g.row.T.Denot = c.index_mut.result.now in
    let inside : c.args.index < length c.args.rows.now.items = omega (arith, c.requires.inside) in
    record {
      row = row;
      is = λ d. sym (get_or_read rows c.args.index row inside c.index_mut.ensures.value d);
      parts = split_at rows c.args.index row inside c.index_mut.ensures.value;
      becomes =
          set_split rows c.args.index c.begin.new.self inside
          ∙ ap (λ k. take c.args.index rows ++ c.begin.new.self ∷ drop k rows) (one_more c.args.index)
          ∙ ap (λ (r : Row g.row.T.Denot). take c.args.index rows ++ r ∷ drop (c.args.index + 1) rows) c.begin.ensures;
    }
