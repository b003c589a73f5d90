use Rattle.std.proofs.Common.{refl}
use Rattle.worker_rounds.proofs.whole.passes_of.Goals as goal

pub returns : goal.returns
returns g c = rw (c.insert.ensures.items, c.unwrap.ensures) refl
