use Rattle.std.proofs.Common.{arith, length, length-take-le, ◌≡◌, ◌≤◌}
use Rattle.std.proofs.lemmas.List.{length-map}
use Rattle.query_machine.specs.Servers.{failing_of}
use Rattle.query_machine.proofs.ServerLemmas.{picked}
use Rattle.query_machine.proofs.servers.Servers.pick.Goals as goal

pub returns : goal.returns
returns c =
    let seen : length c.args.self.now ≡ length c.as_slice.result.now = rw (← c.self.view_is, ← c.as_slice.ensures.value) (length-map c.as_slice.result.now failing_of) in
    let some : 1 ≤ length c.split_at.result.1.now = omega (arith, length-take-le c.args.used c.as_slice.result.now (omega arith)) in
    rw (← c.self.view_is, ← c.as_slice.ensures.value)
    (picked c.as_slice.result.now c.split_at.result.0.now c.split_at.result.1.now _ c.least.result c.least-2.result c.args.first c.args.used
    c.split_at.ensures.front c.split_at.ensures.back some c.least.ensures c.least-2.ensures)
