use Rattle.std.proofs.Common.{subst, sym}
use Rattle.shared_session.proofs.LookLemmas.{looks_by}
use Rattle.shared_session.specs.Looking.{Looks}
use Rattle.shared_session.proofs.looking.look_one.Goals as goal

pub returns : goal.returns
returns g c =
    subst (Looks c.is_none-none.result c.args.pass) (sym c.leave.ensures)
    (subst (λ p. Looks c.is_none-none.result p c.counts-counts.new.self) c.place-place.ensures
    (looks_by c.counts-counts.result c.place-place.result c.counts-counts.new.self c.counts-counts.ensures.done c.is_none-none.result c.is_none-none.ensures))
