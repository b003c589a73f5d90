use Rattle.event_runner.proofs.StartLemmas.{draws_word}
use Rattle.event_runner.proofs.starting.draw_bits.Goals as goal

pub returns-then-mix : goal.returns-then-mix
returns-then-mix g c = record { draws = draws_word _ _ _ _ c.if-mix.true c.word.ensures.log; waits = c.word.ensures.wait_cause; faults = c.word.ensures.cause.later; origin = c.word.ensures.origin }
