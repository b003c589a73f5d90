use Rattle.event_runner.proofs.Base.{arith, refl, sym, ◌∙◌, ap, was_told}
use Rattle.event_runner.proofs.OutLemmas.{tells_already}
use Rattle.event_runner.proofs.asking.tell.Goals as goal

pub returns-then-contains : goal.returns-then-contains
returns-then-contains g c = record {
  tells = λ known. tells_already _ _ _ _ (ap (was_told c.args.server) (sym c.deref.ensures.value) ∙ sym c.contains.ensures.value ∙ c.if-contains.true) refl;
  waits = refl;
  faults = omega arith;
  origin = refl;
}
