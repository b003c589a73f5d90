use Rattle.event_runner.proofs.Base.{refl, [], ◌∷◌, closing, expiring, receiving, starting, writing, state_of}
use Rattle.event_runner.proofs.GoesLemmas.{ends_err}
use Rattle.event_runner.proofs.TurnLemmas.{five_parts, part_cut, part_more, reads_clock, unread}
use Rattle.event_runner.proofs.turning.turn_once.Goals as goal

pub returns-in_err-reading-clause-goes : goal.returns-in_err-reading-clause-goes
returns-in_err-reading-clause-goes g c = ends_err _ _ _ c.from_residual.ensures.0 _ _ (unread _ _ refl c.in_err-reading.ensures.log)

pub returns-in_err-received-clause-goes : goal.returns-in_err-received-clause-goes
returns-in_err-received-clause-goes g c =
    let t0 = reads_clock c.in_ok-reading.reading (state_of (g.D.Desk.known c.args.desk.now) c.args.kept.now (g.W.World.log c.args.world.now)) _ c.in_ok-reading.ensures.log in
    ends_err _ _ _ c.from_residual-in_err-received.ensures.0 _ _ (part_cut c.in_ok-reading.reading receiving _ _ _ _ _ _ t0 c.in_err-received.ensures.goes)

pub returns-in_err-expired-clause-goes : goal.returns-in_err-expired-clause-goes
returns-in_err-expired-clause-goes g c =
    let t0 = reads_clock c.in_ok-reading.reading (state_of (g.D.Desk.known c.args.desk.now) c.args.kept.now (g.W.World.log c.args.world.now)) _ c.in_ok-reading.ensures.log in
    let t1 = part_more c.in_ok-reading.reading [] receiving 0 0 0 c.in_ok-received.received 0 0 _ _ _ t0 c.in_ok-received.ensures.goes in
    ends_err _ _ _ c.from_residual-in_err-expired.ensures.0 _ _ (part_cut c.in_ok-reading.reading expiring _ _ _ _ _ _ t1 (c.in_err-expired.ensures.goes c.receive_all.new.kept (g.W.World.log c.receive_all.new.world)))

pub returns-in_err-started-clause-goes : goal.returns-in_err-started-clause-goes
returns-in_err-started-clause-goes g c =
    let t0 = reads_clock c.in_ok-reading.reading (state_of (g.D.Desk.known c.args.desk.now) c.args.kept.now (g.W.World.log c.args.world.now)) _ c.in_ok-reading.ensures.log in
    let t1 = part_more c.in_ok-reading.reading [] receiving 0 0 0 c.in_ok-received.received 0 0 _ _ _ t0 c.in_ok-received.ensures.goes in
    let t2 = part_more c.in_ok-reading.reading (receiving ∷ []) expiring _ _ _ 0 c.in_ok-expired.expired 0 _ _ _ t1 (c.in_ok-expired.ensures.goes c.receive_all.new.kept (g.W.World.log c.receive_all.new.world)) in
    ends_err _ _ _ c.from_residual-in_err-started.ensures.0 _ _ (part_cut c.in_ok-reading.reading starting _ _ _ _ _ _ t2 c.in_err-started.ensures.goes)

pub returns-in_err-write_all-clause-goes : goal.returns-in_err-write_all-clause-goes
returns-in_err-write_all-clause-goes g c =
    let t0 = reads_clock c.in_ok-reading.reading (state_of (g.D.Desk.known c.args.desk.now) c.args.kept.now (g.W.World.log c.args.world.now)) _ c.in_ok-reading.ensures.log in
    let t1 = part_more c.in_ok-reading.reading [] receiving 0 0 0 c.in_ok-received.received 0 0 _ _ _ t0 c.in_ok-received.ensures.goes in
    let t2 = part_more c.in_ok-reading.reading (receiving ∷ []) expiring _ _ _ 0 c.in_ok-expired.expired 0 _ _ _ t1 (c.in_ok-expired.ensures.goes c.receive_all.new.kept (g.W.World.log c.receive_all.new.world)) in
    let t3 = part_more c.in_ok-reading.reading (receiving ∷ expiring ∷ []) starting _ _ _ 0 0 c.in_ok-started.started _ _ _ t2 c.in_ok-started.ensures.goes in
    ends_err _ _ _ c.from_residual-in_err-write_all.ensures.0 _ _ (part_cut c.in_ok-reading.reading writing _ _ _ _ _ _ t3 c.in_err-write_all.ensures.goes)

pub returns-in_err-close_idle-clause-goes : goal.returns-in_err-close_idle-clause-goes
returns-in_err-close_idle-clause-goes g c =
    let t0 = reads_clock c.in_ok-reading.reading (state_of (g.D.Desk.known c.args.desk.now) c.args.kept.now (g.W.World.log c.args.world.now)) _ c.in_ok-reading.ensures.log in
    let t1 = part_more c.in_ok-reading.reading [] receiving 0 0 0 c.in_ok-received.received 0 0 _ _ _ t0 c.in_ok-received.ensures.goes in
    let t2 = part_more c.in_ok-reading.reading (receiving ∷ []) expiring _ _ _ 0 c.in_ok-expired.expired 0 _ _ _ t1 (c.in_ok-expired.ensures.goes c.receive_all.new.kept (g.W.World.log c.receive_all.new.world)) in
    let t3 = part_more c.in_ok-reading.reading (receiving ∷ expiring ∷ []) starting _ _ _ 0 0 c.in_ok-started.started _ _ _ t2 c.in_ok-started.ensures.goes in
    let t4 = part_more c.in_ok-reading.reading (receiving ∷ expiring ∷ starting ∷ []) writing _ _ _ 0 0 0 _ _ _ t3 c.in_ok-write_all.ensures.goes in
    ends_err _ _ _ c.from_residual-in_err-close_idle.ensures.0 _ _ (part_cut c.in_ok-reading.reading closing _ _ _ _ _ _ t4 (c.in_err-close_idle.ensures.goes c.in_ok-reading.reading))

pub returns-clause-goes : goal.returns-clause-goes
returns-clause-goes g c =
    let t0 = reads_clock c.in_ok-reading.reading (state_of (g.D.Desk.known c.args.desk.now) c.args.kept.now (g.W.World.log c.args.world.now)) _ c.in_ok-reading.ensures.log in
    let t1 = part_more c.in_ok-reading.reading [] receiving 0 0 0 c.in_ok-received.received 0 0 _ _ _ t0 c.in_ok-received.ensures.goes in
    let t2 = part_more c.in_ok-reading.reading (receiving ∷ []) expiring _ _ _ 0 c.in_ok-expired.expired 0 _ _ _ t1 (c.in_ok-expired.ensures.goes c.receive_all.new.kept (g.W.World.log c.receive_all.new.world)) in
    let t3 = part_more c.in_ok-reading.reading (receiving ∷ expiring ∷ []) starting _ _ _ 0 0 c.in_ok-started.started _ _ _ t2 c.in_ok-started.ensures.goes in
    let t4 = part_more c.in_ok-reading.reading (receiving ∷ expiring ∷ starting ∷ []) writing _ _ _ 0 0 0 _ _ _ t3 c.in_ok-write_all.ensures.goes in
    let t5 = part_more c.in_ok-reading.reading (receiving ∷ expiring ∷ starting ∷ writing ∷ []) closing _ _ _ 0 0 0 _ _ _ t4 (c.in_ok-close_idle.ensures.goes c.in_ok-reading.reading) in
    five_parts c.in_ok-reading.reading _ _ _ _ _ t5
