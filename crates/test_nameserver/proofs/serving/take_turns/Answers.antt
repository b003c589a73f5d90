use Rattle.std.proofs.Common.{◌+◌, arith, Ok, Err}
use Rattle.net_world.specs.declared.answers.Sent.TheVariants.{Sent as WasSent, Failed as NotSent}
use Rattle.test_nameserver.specs.Turns.{AreTurn, AreTurns, FailInTurns, StopInTurns}
use Rattle.test_nameserver.proofs.TurnLemmas.{logs_trans, one_fails, one_more, one_stops}
use Rattle.test_nameserver.proofs.serving.take_turns.Goals as goal

pub returns-in-Ok-Failed-clause-turns : goal.returns-in-Ok-Failed-clause-turns
returns-in-Ok-Failed-clause-turns g c =
    logs_trans (AreTurns c.args.zone.now c.loop.counter) (AreTurn c.args.zone.now (Ok NotSent)) (FailInTurns c.args.zone.now c.args.count) _ _ _
    (λ x y turns turn. one_fails c.args.zone.now c.loop.counter c.args.count x y c.loop-test.true turns turn)
    c.loop.invariant.turns (rw c.in-Ok-Failed.field-0-is at c.in-Ok-Failed.ensures.turn)

pub returns-in-Err-clause-turns : goal.returns-in-Err-clause-turns
returns-in-Err-clause-turns g c =
    logs_trans (AreTurns c.args.zone.now c.loop.counter) (AreTurn c.args.zone.now (Err c.in-Err.field-0)) (StopInTurns c.args.zone.now c.args.count) _ _ _
    (λ x y turns turn. one_stops c.args.zone.now c.loop.counter c.args.count c.in-Err.field-0 x y c.loop-test.true turns turn)
    c.loop.invariant.turns c.in-Err.ensures.turn

pub loop-preserved : goal.loop-preserved
loop-preserved g c = record {
  turns =
      logs_trans (AreTurns c.args.zone.now c.loop.counter) (AreTurn c.args.zone.now (Ok WasSent)) (AreTurns c.args.zone.now (c.loop.counter + 1)) _ _ _
      (one_more c.args.zone.now c.loop.counter) c.loop.invariant.turns (rw c.in-Ok-Sent.field-0-is at c.in-Ok-Sent.ensures.turn);
  later = omega arith;
}
