use Rattle.std.proofs.Common.{rules}
use Rattle.seat_lock.proofs.TurnLemmas.{finds_more}
use Rattle.seat_lock.proofs.lock.SeatLock.take_turns.Goals as goal

pub loop-op-preserved : goal.loop-op-preserved
loop-op-preserved g c =
    let at = c.loop-op in (
      search rules,
      search rules,
      search rules,
      rw (c.push_reserved.ensures.items) (finds_more g.S.Kept.maker (g.O.Op.means c.args.op) at.found.items c.in-Some.item c.args.seat.now at.seat c.turn_inside.new.seat at.invariant.3 c.in-Some.ensures.turn),
    )
