use Rattle.shared_channel.proofs.Telling.{turn_tells}
use Rattle.shared_channel.proofs.turns.take_turn.Goals as goal

pub returns-clause-turn : goal.returns-clause-turn
returns-clause-turn g c =
    turn_tells (g.O.Op.means c.args.op) c.account.inside.seat c.turn.new.seat c.account.inside.is_set _ c.account.inside.calls c.account.inside.lost c.turn.result c.args.account.now c.account.view_is c.account.inside.aware c.turn.ensures
