use Rattle.event_runner.proofs.DeliverLemmas.{delivered_none, delivers_err, fed, fed_left}
use Rattle.event_runner.proofs.inbound.Inbound.feed.Goals as goal

pub returns-in_err-append-clause-delivers : goal.returns-in_err-append-clause-delivers
returns-in_err-append-clause-delivers g c = delivers_err _ _ _ _ _ _ c.from_residual.ensures.0 (delivered_none _ _ _ _)

pub returns-then-is_err-clause-delivers : goal.returns-then-is_err-clause-delivers
returns-then-is_err-clause-delivers g c = fed _ _ _ _ c.self.invariant c.self.view_is c.in_ok-append.ensures.ok _ _ _ _ _ c.deliver-delivered.ensures.delivers

pub returns-else-is_err-clause-left : goal.returns-else-is_err-clause-left
returns-else-is_err-clause-left g c = fed_left _ _ _ _ c.self.invariant c.self.view_is c.in_ok-append.ensures.ok _ _ c.deliver-delivered.ensures.left

pub returns-else-is_err-clause-delivers : goal.returns-else-is_err-clause-delivers
returns-else-is_err-clause-delivers g c = fed _ _ _ _ c.self.invariant c.self.view_is c.in_ok-append.ensures.ok _ _ _ _ _ c.deliver-delivered.ensures.delivers
