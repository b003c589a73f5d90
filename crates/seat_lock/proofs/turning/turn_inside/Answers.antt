use Rattle.seat_lock.proofs.TurnLemmas.{turn_is}
use Rattle.seat_lock.proofs.turning.turn_inside.Goals as goal

pub returns-clause-turn : goal.returns-clause-turn
returns-clause-turn g c =
    let old = c.seat.inside.token in let drew = c.draw-ticket in let took = c.take-state in let ran = c.run-reply in let gave = c.give in
    rw (← c.seat.view_is)
    (turn_is g.S.Kept.stands g.S.Kept.maker g.S.Kept.setting old.table_id old.me.0 (g.O.Op.means c.args.op) drew.new.token.me took.new.token.me gave.new.token.me drew.ensures.drawn.0 c.seat.inside.number took.result ran.new.state ran.result old.me.1
    c.seat.invariant.0 drew.ensures.drawn.2 took.ensures.took ran.ensures.means ran.ensures.adds gave.ensures.gave gave.ensures.aware drew.new.token.table_id took.new.token.table_id gave.new.token.table_id drew.ensures.token.0 took.ensures.token.0 gave.ensures.token.0)
