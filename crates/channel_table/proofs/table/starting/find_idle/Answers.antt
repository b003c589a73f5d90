use Rattle.channel_table.proofs.Base.{arith, sym, subst, get_or, get_or_read, leg_of, row_waits, IsIdle, Row}
use Rattle.channel_table.proofs.Finding.{found_first}
use Rattle.channel_table.proofs.table.starting.find_idle.Goals as goal

pub returns-in-Some : goal.returns-in-Some
returns-in-Some g c =
    let row : Row g.row.T.Denot = c.row_at.result.now in
    let found = c.in-Some.ensures in
    record {
      inside = omega (arith, c.loop-index-test.true, c.len-index-end.ensures, found.0);
      is = λ d. subst (λ n. IsIdle (get_or c.args.rows.now.items n d) c.in-Some.idle) (sym found.0)
          (subst (λ (r : Row g.row.T.Denot). IsIdle r c.in-Some.idle) (get_or_read c.args.rows.now.items c.loop-index.index row (omega (arith, c.loop-index-test.true, c.len-index-end.ensures)) c.row_at.ensures d) found.1);
      firsts = found_first row_waits c.args.rows.now.items c.loop-index.index row (omega (arith, c.loop-index-test.true, c.len-index-end.ensures)) c.row_at.ensures c.loop-index.invariant (leg_of c.in-Some.idle.number c.in-Some.idle.leg_number) found.1.firsts;
    }
