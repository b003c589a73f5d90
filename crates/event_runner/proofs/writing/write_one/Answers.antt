use Rattle.event_runner.proofs.Base.{◌+◌, ◌<◌, arith, drop, length, take}
use Rattle.event_runner.proofs.FlushLemmas.{front_size, one_err, one_gone, one_stays, one_unclosed, one_unkept, placed_row}
use Rattle.event_runner.proofs.GoesLemmas.{ends_err}
use Rattle.event_runner.proofs.RowLemmas.{removed_rows, rows_set}
use Rattle.event_runner.proofs.writing.write_one.Goals as goal

pub returns-in_err-flush-clause-goes : goal.returns-in_err-flush-clause-goes
returns-in_err-flush-clause-goes g c =
    let rows = c.args.kept.now.links.items in
    let fits : c.args.index < length c.args.kept.now.links.items = omega (arith, c.args.kept.now.links.ok.0, c.requires) in
    let known = g.D.Desk.known c.args.desk.now in
    ends_err _ _ _ c.from_residual.ensures.0 _ _
    (one_err c.args.reading known rows _ (take c.args.index rows) (drop (c.args.index + 1) rows) c.index_mut-link.result.now c.flush.new.link c.args.kept.now.told.items c.args.kept.now.mix _ c.args.index
    (front_size rows c.args.index fits) (placed_row rows c.args.index _ fits c.index_mut-link.ensures.value) (rows_set rows c.args.index c.flush.new.link fits) _
    (c.in_err-flush.ensures.goes c.args.reading known (take c.args.index rows) (drop (c.args.index + 1) rows) c.args.kept.now.told.items c.args.kept.now.mix))

pub returns-then-branch-clause-goes : goal.returns-then-branch-clause-goes
returns-then-branch-clause-goes g c =
    let rows = c.args.kept.now.links.items in
    let fits : c.args.index < length c.args.kept.now.links.items = omega (arith, c.args.kept.now.links.ok.0, c.requires) in
    let known = g.D.Desk.known c.args.desk.now in
    let flushed = rw c.if-branch.true at c.in_ok-flush.ensures.goes in
    one_stays c.args.reading known rows _ (take c.args.index rows) (drop (c.args.index + 1) rows) c.index_mut-link.result.now c.flush.new.link c.args.kept.now.told.items c.args.kept.now.mix _ c.args.index
    (front_size rows c.args.index fits) (placed_row rows c.args.index _ fits c.index_mut-link.ensures.value) (rows_set rows c.args.index c.flush.new.link fits) _
    (flushed c.args.reading known (take c.args.index rows) (drop (c.args.index + 1) rows) c.args.kept.now.told.items c.args.kept.now.mix)

pub returns-in_err-fault-clause-goes : goal.returns-in_err-fault-clause-goes
returns-in_err-fault-clause-goes g c =
    let rows = c.args.kept.now.links.items in
    let fits : c.args.index < length c.args.kept.now.links.items = omega (arith, c.args.kept.now.links.ok.0, c.requires) in
    let known = g.D.Desk.known c.args.desk.now in
    let failed = rw c.if-branch.false at c.in_ok-flush.ensures.goes in
    ends_err _ _ _ c.from_residual-in_err-fault.ensures.0 _ _
    (one_unkept c.args.reading known rows _ (take c.args.index rows) (drop (c.args.index + 1) rows) c.index_mut-link.result.now c.flush.new.link c.args.kept.now.told.items c.args.kept.now.mix _ c.args.index
    (front_size rows c.args.index fits) (placed_row rows c.args.index _ fits c.index_mut-link.ensures.value) (rows_set rows c.args.index c.flush.new.link fits) _ _
    (failed c.args.reading known (take c.args.index rows) (drop (c.args.index + 1) rows) c.args.kept.now.told.items c.args.kept.now.mix) _ (rw (c.number-number.ensures, c.server.ensures) at c.in_err-fault.ensures.done))

pub returns-in_err-close-clause-goes : goal.returns-in_err-close-clause-goes
returns-in_err-close-clause-goes g c =
    let rows = c.args.kept.now.links.items in
    let fits : c.args.index < length c.args.kept.now.links.items = omega (arith, c.args.kept.now.links.ok.0, c.requires) in
    let known = g.D.Desk.known c.args.desk.now in
    let failed = rw c.if-branch.false at c.in_ok-flush.ensures.goes in
    ends_err _ _ _ c.from_residual-in_err-close.ensures.0 _ _
    (one_unclosed c.args.reading known rows _ (take c.args.index rows) (drop (c.args.index + 1) rows) c.index_mut-link.result.now c.flush.new.link c.args.kept.now.told.items c.args.kept.now.mix _ c.args.index
    (front_size rows c.args.index fits) (placed_row rows c.args.index _ fits c.index_mut-link.ensures.value) (rows_set rows c.args.index c.flush.new.link fits) _ _
    (failed c.args.reading known (take c.args.index rows) (drop (c.args.index + 1) rows) c.args.kept.now.told.items c.args.kept.now.mix) _ _ c.in_err-close.ensures.log
    (rw (c.number-number.ensures, c.server.ensures) at c.in_ok-fault.ensures.done))

pub returns-clause-goes : goal.returns-clause-goes
returns-clause-goes g c =
    let rows = c.args.kept.now.links.items in
    let fits : c.args.index < length c.args.kept.now.links.items = omega (arith, c.args.kept.now.links.ok.0, c.requires) in
    let known = g.D.Desk.known c.args.desk.now in
    let failed = rw c.if-branch.false at c.in_ok-flush.ensures.goes in
    one_gone c.args.reading known rows _ (take c.args.index rows) (drop (c.args.index + 1) rows) c.index_mut-link.result.now c.flush.new.link c.args.kept.now.told.items c.args.kept.now.mix _ c.args.index
    (front_size rows c.args.index fits) (placed_row rows c.args.index _ fits c.index_mut-link.ensures.value) (rows_set rows c.args.index c.flush.new.link fits) _ _
    (failed c.args.reading known (take c.args.index rows) (drop (c.args.index + 1) rows) c.args.kept.now.told.items c.args.kept.now.mix) _ _ _
    (removed_rows rows _ c.args.index c.flush.new.link fits c.remove.ensures.by_index.2) c.in_ok-flush.ensures.number (rw c.number-number.ensures at c.in_ok-close.ensures.log)
    (rw (c.number-number.ensures, c.server.ensures) at c.in_ok-fault.ensures.done)
