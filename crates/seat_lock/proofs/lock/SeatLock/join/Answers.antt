use Rattle.seat_lock.proofs.TurnLemmas.{join_is}
use Rattle.seat_lock.proofs.lock.SeatLock.join.Goals as goal

pub returns : goal.returns
returns g c =
    let l = c.left.inside.token in let r = c.right.inside.token in let merged = c.merge in let caught = c.catch_up in
    rw (← c.left.view_is, ← c.right.view_is)
    (join_is g.S.Kept.stands g.S.Kept.maker g.S.Kept.setting l.table_id l.me.0 r.me.0 r.table_id merged.new.token.me caught.new.token.me merged.ensures.both caught.ensures.further merged.new.token.table_id caught.new.token.table_id merged.ensures.token.0 caught.ensures.token.0)
