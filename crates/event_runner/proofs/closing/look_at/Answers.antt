use Rattle.event_runner.proofs.Base.{refl, ◌+◌, ◌<◌, arith, drop, length, take}
use Rattle.event_runner.proofs.CloseLemmas.{look_cut, look_gone, look_stays}
use Rattle.event_runner.proofs.FlushLemmas.{front_size, placed_row}
use Rattle.event_runner.proofs.GoesLemmas.{ends_err}
use Rattle.event_runner.proofs.closing.look_at.Goals as goal

pub returns-then-link_busy-clause-goes : goal.returns-then-link_busy-clause-goes
returns-then-link_busy-clause-goes g c = λ reading.
    let rows = c.args.kept.now.links.items in
    let fits : c.args.index < length c.args.kept.now.links.items = omega (arith, c.args.kept.now.links.ok.0, c.requires) in
    look_stays reading _ _ c.args.index (take c.args.index rows) c.index-link.result.now (drop (c.args.index + 1) rows) (front_size rows c.args.index fits) (placed_row rows c.args.index _ fits c.index-link.ensures) refl refl refl refl
    (rw (c.number-number.ensures, c.server.ensures, c.if-link_busy.true) at c.link_busy.ensures.done)

pub returns-in_err-close-clause-goes : goal.returns-in_err-close-clause-goes
returns-in_err-close-clause-goes g c = λ reading.
    let rows = c.args.kept.now.links.items in
    let fits : c.args.index < length c.args.kept.now.links.items = omega (arith, c.args.kept.now.links.ok.0, c.requires) in
    ends_err _ _ _ c.from_residual.ensures.0 _ _
    (look_cut reading _ _ c.args.index (take c.args.index rows) c.index-link.result.now (drop (c.args.index + 1) rows) (front_size rows c.args.index fits) (placed_row rows c.args.index _ fits c.index-link.ensures) refl refl
    c.in_err-close.ensures.log (rw (c.number-number.ensures, c.server.ensures, c.if-link_busy.false) at c.link_busy.ensures.done))

pub returns-clause-goes : goal.returns-clause-goes
returns-clause-goes g c = λ reading.
    let rows = c.args.kept.now.links.items in
    let fits : c.args.index < length c.args.kept.now.links.items = omega (arith, c.args.kept.now.links.ok.0, c.requires) in
    look_gone reading _ _ c.args.index (take c.args.index rows) c.index-link.result.now (drop (c.args.index + 1) rows) (front_size rows c.args.index fits) (placed_row rows c.args.index _ fits c.index-link.ensures) refl refl
    c.remove.ensures.by_index.2 (rw c.number-number.ensures at c.in_ok-close.ensures.log) (rw (c.number-number.ensures, c.server.ensures, c.if-link_busy.false) at c.link_busy.ensures.done)
