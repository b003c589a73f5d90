use Rattle.channel_table.proofs.Base.{take, subst, arith, ◌≡◌, length, take_all, take_more, IsSoonest}
use Rattle.std.proofs.lemmas.List.{length-take-le}
use Rattle.channel_table.proofs.SoonestLemmas.{soonest_more}
use Rattle.channel_table.proofs.table.seeking.find_soonest.Goals as goal

pub loop-index-preserved : goal.loop-index-preserved
loop-index-preserved g c =
    let here : length (take c.loop-index.index c.args.rows.now.items) ≡ c.loop-index.index = length-take-le c.loop-index.index c.args.rows.now.items (omega (arith, c.loop-index-test.true, c.len-index-end.ensures)) in
    let more = soonest_more (take c.loop-index.index c.args.rows.now.items) c.row_at.result.now c.loop-index.best c.loop-index.index here c.loop-index.invariant in
    rw (c.sooner_row-best.ensures, take_more c.args.rows.now.items c.loop-index.index c.row_at.result.now (omega (arith, c.loop-index-test.true, c.len-index-end.ensures)), ← c.row_at.ensures) more

pub returns : goal.returns
returns g c = subst (λ rows. IsSoonest rows c.loop-index.best) (take_all c.loop-index.index c.args.rows.now.items (omega (arith, c.loop-index-test.false, c.len-index-end.ensures))) c.loop-index.invariant
