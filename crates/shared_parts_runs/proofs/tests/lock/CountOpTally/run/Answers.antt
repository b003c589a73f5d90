use Rattle.std.proofs.Common.{is_ok, refl}
use Rattle.seat_lock.proofs.Theorems.{adds_if}
use Rattle.shared_parts_runs.proofs.tests.lock.CountOpTally.run.Goals as goal

pub returns-clause-adds : goal.returns-clause-adds
returns-clause-adds c = adds_if (λ e. e) c.args.seat c.args.state.now.marks.items c.push.new.self.items (is_ok c.push.result) c.args.seat c.push.ensures.items refl
