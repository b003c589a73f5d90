use Rattle.test_nameserver.proofs.TurnLemmas.{turn_logged, turn_unheard, turn_wanting}
use Rattle.test_nameserver.proofs.serving.take_turn.Goals as goal

pub returns-in-Ok-Message-clause-turn : goal.returns-in-Ok-Message-clause-turn
returns-in-Ok-Message-clause-turn g c =
    turn_logged c.args.zone.now c.in-Ok-Message.tcp c.in-Ok-Message.bytes c.as_slice.result.now c.in-Ok-Message.field-0 c.send_reply.result _ _ _
    c.in-Ok-Message.field-0-is c.as_slice.ensures c.in-Ok-Message.ensures.log c.send_reply.ensures.replies

pub returns-in-Ok-Failed-clause-turn : goal.returns-in-Ok-Failed-clause-turn
returns-in-Ok-Failed-clause-turn g c = turn_unheard c.args.zone.now c.in-Ok-Failed.field-0 _ _ c.in-Ok-Failed.field-0-is c.in-Ok-Failed.ensures.log

pub returns-in-Err-clause-turn : goal.returns-in-Err-clause-turn
returns-in-Err-clause-turn g c = turn_wanting c.args.zone.now _ _ _ c.in-Err.ensures.log
