use Rattle.std.proofs.Common.{ap, arith, map, refl, sym, ◌∙◌}
use Rattle.std.proofs.lemmas.List.{take_all}
use Rattle.acache_tool.proofs.LoopLemmas.{asks_err, asks_stalled, asks_wait, brought_as, brought_more, brought_none, names_front, names_more}
use Rattle.acache_tool.proofs.IdleLemmas.{idle_kept}
use Rattle.acache_tool.proofs.asking.ask_all.Goals as goal

pub loop-name-init : goal.loop-name-init
loop-name-init g c = record { brought = brought_none _; idle = c.requires.idle; waits = omega arith; origin = refl }

pub loop-name-preserved : goal.loop-name-preserved
loop-name-preserved g c =
    let tries = rw c.in-Completed.is at c.in_ok-ask_one.ensures.tries in
    record {
      brought = brought_as _ _ _ _ (sym (names_more (λ name. name.now) _ _ _ c.loop-name-test.true)) (brought_more _ _ _ _ _ _ _ tries c.loop-name.invariant.brought);
      idle = idle_kept _ _ _ _ _ tries c.loop-name.invariant.idle;
      waits = omega (arith, c.loop-name.invariant.waits, c.ask_one.ensures.waits);
      origin = c.ask_one.ensures.origin ∙ c.loop-name.invariant.origin;
    }

pub returns-in_err-ask_one-clause-asks : goal.returns-in_err-ask_one-clause-asks
returns-in_err-ask_one-clause-asks g c = λ room setting turns began start.
    asks_err _ _ _ _ _ _ c.loop-name.invariant.brought (names_front (λ name. name.now) _ _ _ c.loop-name-test.true) room setting turns began start
    c.from_residual.result c.in_err-ask_one.field-0.0 c.from_residual.ensures.0 _ _ _ c.in_err-ask_one.ensures.tries

pub returns-in-WaitFault-clause-asks : goal.returns-in-WaitFault-clause-asks
returns-in-WaitFault-clause-asks g c = λ room setting turns began start.
    asks_wait _ _ _ _ _ _ c.loop-name.invariant.brought (names_front (λ name. name.now) _ _ _ c.loop-name-test.true) room setting turns began start
    _ _ _ c.loop-name.invariant.waits c.ask_one.ensures.waits (rw c.in-WaitFault.is at c.in_ok-ask_one.ensures.tries)

pub returns-in-Stalled-clause-asks : goal.returns-in-Stalled-clause-asks
returns-in-Stalled-clause-asks g c = λ room setting turns began start.
    asks_stalled _ _ _ _ _ _ c.loop-name.invariant.brought (names_front (λ name. name.now) _ _ _ c.loop-name-test.true) room setting turns began start
    0 _ _ (rw c.in-Stalled.is at c.in_ok-ask_one.ensures.tries)

pub returns-clause-asks : goal.returns-clause-asks
returns-clause-asks g c = λ room setting turns began start.
    let x = c.loop-name.invariant.brought room setting turns began start in
    (x.0, x.1 ∙ ap (map (λ name. name.now)) (take_all _ _ (omega (arith, c.loop-name-test.false))), x.2)
