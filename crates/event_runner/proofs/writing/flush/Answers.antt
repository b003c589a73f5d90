use Rattle.event_runner.proofs.Base.{arith, refl, ◌∙◌, ◌==◌, ap, sym, length, eqb-true, with_row}
use Rattle.event_runner.proofs.WriteLemmas.{flush_err, flushed_as, goes_empty, goes_full, goes_wrote, no_bytes, to_as, to_cut, to_flushed, to_joined, to_none}
use Rattle.event_runner.proofs.writing.flush.Goals as goal

pub loop-world-init : goal.loop-world-init
loop-world-init g c = record { goes = λ reading known before after keys mix. to_none reading _ _; number = refl; server = refl; waits = refl; faults = omega arith; origin = refl }

pub returns-in_err-write-clause-goes : goal.returns-in_err-write-clause-goes
returns-in_err-write-clause-goes g c = λ reading known before after keys mix.
    flush_err reading _ _ _ _ _ _ c.from_residual.ensures.0
    (to_cut reading _ _ (with_row reading known before after keys mix c.loop-world.link (g.W.World.log c.loop-world.world)) _ refl c.in_err-write.ensures.log (c.loop-world.invariant.goes reading known before after keys mix))

pub returns-in-Count-eq0-clause-goes : goal.returns-in-Count-eq0-clause-goes
returns-in-Count-eq0-clause-goes g c = λ reading known before after keys mix.
    to_flushed reading _ _ (with_row reading known before after keys mix c.loop-world.link (g.W.World.log c.loop-world.world)) _ (c.loop-world.invariant.goes reading known before after keys mix)
    (flushed_as reading _ _ _ _ c.loop-world.invariant.number
    (goes_full reading known before c.loop-world.link after keys mix _ _
    (ap (λ bytes. length bytes == 0) (sym c.unwritten.ensures) ∙ sym c.is_empty.ensures ∙ c.loop-world-test.true)
    (rw (c.number.ensures, c.unwritten-in-loop-world.ensures, c.in-Count-eq0.is, c.in-Count-eq0.field-0-test) at c.in_ok-write.ensures.log)))

pub loop-world-preserved : goal.loop-world-preserved
loop-world-preserved g c = record {
  goes = λ reading known before after keys mix.
      rw c.wrote.ensures
      (to_joined reading _ _ (with_row reading known before after keys mix c.loop-world.link (g.W.World.log c.loop-world.world)) _ (c.loop-world.invariant.goes reading known before after keys mix)
      (to_as reading _ _ _ _ c.loop-world.invariant.number
      (goes_wrote reading known before c.loop-world.link after keys mix c.in-Count.count _ _ (rw (c.number.ensures, c.unwritten-in-loop-world.ensures, c.in-Count.is) at c.in_ok-write.ensures.log))));
  number = rw c.wrote.ensures c.loop-world.invariant.number;
  server = rw c.wrote.ensures c.loop-world.invariant.server;
  waits = c.in_ok-write.ensures.wait_cause ∙ c.loop-world.invariant.waits;
  faults = omega (arith, c.in_ok-write.ensures.cause.later, c.loop-world.invariant.faults);
  origin = c.in_ok-write.ensures.origin ∙ c.loop-world.invariant.origin;
}

pub returns-in-Failed-clause-goes : goal.returns-in-Failed-clause-goes
returns-in-Failed-clause-goes g c = λ reading known before after keys mix. (
  g.W.World.log c.loop-world.world,
  c.loop-world.invariant.goes reading known before after keys mix,
  rw (c.number.ensures, c.unwritten-in-loop-world.ensures, c.in-Failed.is) at c.in_ok-write.ensures.log,
)

pub returns-clause-goes : goal.returns-clause-goes
returns-clause-goes g c = λ reading known before after keys mix.
    flushed_as reading _ _ _ _ c.loop-world.invariant.number
    (goes_empty reading known before c.loop-world.link after keys mix _ _ (no_bytes _ (ap length (sym c.unwritten.ensures) ∙ eqb-true _ _ (sym c.is_empty.ensures ∙ c.loop-world-test.false))) refl
    (to_as reading _ _ _ _ (sym c.loop-world.invariant.number) (c.loop-world.invariant.goes reading known before after keys mix)))
