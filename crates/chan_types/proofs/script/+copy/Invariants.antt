-- the steps copied so far are the first ones
use Rattle.std.proofs.Common.{◌≡◌, take}
use Rattle.chan_types.proofs.script.+copy.Given as goal

abbrev pub invariant-copy_steps-loop-step : goal.invariant-copy_steps-loop-step
invariant-copy_steps-loop-step l = l.copied.items ≡ take l.step-index l.steps
