use Rattle.channel_fleet.specs.Staying.{BerthsStay}
use Rattle.channel_fleet.specs.Views.{IsAtFleet}
use Rattle.fleet_runs.proofs.tests.calls.all_as_said.Given as goal

-- so far the berths stayed, at their fleet
abbrev pub invariant-loop-row : goal.invariant-loop-row
invariant-loop-row g l = BerthsStay l.fn.pass l.pass × IsAtFleet l.fleet l.pass
