use Rattle.event_runner.specs.Turning.{IsCutShort, MakesTurn}
use Rattle.thread_lookups.proofs.RunLemmas.{turn_asks_nothing}
use Rattle.thread_lookups.proofs.running.turn.Goals as goal

pub returns-in_err-turn-clause-asks : goal.returns-in_err-turn-clause-asks
returns-in_err-turn-clause-asks g c = turn_asks_nothing MakesTurn IsCutShort c.turn.result c.args.place.now c.turn.new.desk c.args.runner.now c.turn.new.self _ _ c.turn.ensures.goes

pub returns-clause-asks : goal.returns-clause-asks
returns-clause-asks g c = turn_asks_nothing MakesTurn IsCutShort c.turn.result c.args.place.now c.turn.new.desk c.args.runner.now c.turn.new.self _ _ c.turn.ensures.goes
