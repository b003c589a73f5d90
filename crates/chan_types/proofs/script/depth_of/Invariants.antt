-- the depth so far is that of the first steps
use Rattle.std.proofs.Common.{◌≡◌, take}
use Rattle.chan_types.specs.Plans.{depth}
use Rattle.chan_types.specs.Scripts.{moves_of}
use Rattle.chan_types.proofs.script.depth_of.Given as goal

abbrev pub invariant-loop-step : goal.invariant-loop-step
invariant-loop-step l = l.deep ≡ depth (moves_of (take l.step-index l.steps))
